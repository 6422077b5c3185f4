-- The places passed hold what the definition says. Assumes nothing.
use Rattle.std.proofs.Common.{arith}
use Rattle.base_lists.proofs.Tables.{tab_of}
use Rattle.machine_master.specs.Changes.{no_hold}
use Rattle.machine_master.specs.Ticks.{all_older}
use Rattle.machine_master.proofs.holds.all_older.Goals as goal

pub returns : goal.returns
unfolding all_older
returns c = tab_of no_hold 16 _ _ c.loop-i.invariant.0 (λ k p. c.loop-i.invariant.1 k (omega arith))
