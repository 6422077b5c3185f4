-- The places passed hold what the definition says. Assumes nothing.
use native.Mathlib.Omega.{arith}
use Rattle.base_lists.proofs.Tables.{tab_of}
use Rattle.machine_master.specs.Changes.{no_hold}
use Rattle.packed_master.specs.States.{holds_of}
use Rattle.packed_master.proofs.states.holds_of.Goals as goal

pub returns : goal.returns
unfolding holds_of
returns c = tab_of no_hold 16 _ _ c.loop-k.invariant.0 (λ i p. c.loop-k.invariant.1 i (omega arith))
