-- No row so far has the ReqId. Assumes nothing.
use Rattle.std.proofs.Common.{◌≡◌, false}
use Rattle.base_lists.specs.Bounded.{any_to}
use Rattle.set_plan.specs.Find.{has_reqid}
use Rattle.set_plan.proofs.find.find_row.Given as goal

abbrev pub invariant-loop-row : goal.invariant-loop-row
invariant-loop-row l = any_to (has_reqid l.row-items l.reqid) l.row-index ≡ false
