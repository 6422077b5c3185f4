-- Whether each row so far is right, and its ReqId, which is the one before the next. Assumes nothing.
use Rattle.std.proofs.Common.{◌≡◌}
use Rattle.base_lists.specs.Bounded.{all_to}
use Rattle.set_plan.specs.Rules.{reqid_before, row_right}
use Rattle.set_plan.proofs.rules.each_row_right.Given as goal

abbrev pub invariant-loop-row : goal.invariant-loop-row
invariant-loop-row l = record {
  right : l.right ≡ all_to (row_right l.nodecount l.rows) l.row-index;
  before : l.before ≡ reqid_before l.rows l.row-index;
}
