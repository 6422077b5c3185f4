-- The rows from j on have been looked at. Assumes nothing.
use mathlib.Core.Path.{◌≡◌}
use Rattle.set_plan.specs.Find.{last_among, rising_row}
use Rattle.set_record.specs.Record.{plan_in}
use Rattle.set_record.proofs.fields.Record.rising_row.Given as goal

abbrev pub invariant-loop-j : goal.invariant-loop-j
invariant-loop-j l = last_among (plan_in l.self.bytes.now).rows l.reqid l.j ≡ rising_row (plan_in l.self.bytes.now) l.reqid
