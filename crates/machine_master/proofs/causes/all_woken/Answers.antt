-- The places passed have what the definition says. Assumes nothing.
use Rattle.std.proofs.Common.{arith}
use Rattle.base_lists.proofs.Tables.{tab_of}
use Rattle.machine_master.specs.Changes.{all_woken}
use Rattle.machine_master.proofs.causes.all_woken.Goals as goal

pub returns : goal.returns
unfolding all_woken
returns c = tab_of 0 16 _ _ c.loop-i.invariant.0 (λ k p. c.loop-i.invariant.1 k (omega arith))
