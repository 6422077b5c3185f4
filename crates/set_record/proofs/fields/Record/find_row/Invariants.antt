use mathlib.Core.Path.{◌≡◌}
use mathlib.Core.Bool.{false}
use Rattle.base_lists.specs.Bounded.{any_to}
use Rattle.set_plan.specs.Find.{has_reqid}
use Rattle.set_record.specs.Record.{plan_in}
use Rattle.set_record.proofs.fields.Record.find_row.Given as goal

abbrev pub invariant-loop-j : goal.invariant-loop-j
invariant-loop-j l = any_to (has_reqid (plan_in l.self.bytes.now).rows l.reqid) l.j ≡ false
