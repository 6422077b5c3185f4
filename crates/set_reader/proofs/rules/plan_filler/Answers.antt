-- By ranges. Assumes nothing.
use Rattle.set_reader.proofs.Filler.{plan_runs}
use Rattle.set_reader.proofs.rules.plan_filler.Goals as goal

pub returns : goal.returns
returns c = plan_runs _ _ _ _ (rw c.byte_at.ensures at c.filler_start-start.ensures) c.are_zero.ensures c.are_zero-2.ensures
