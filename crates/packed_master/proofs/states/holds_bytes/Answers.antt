-- Three bytes a turn. Assumes nothing.
use native.Mathlib.Omega.{arith}
use Rattle.base_lists.proofs.Tables.{tab_of}
use Rattle.packed_master.specs.States.{holds_bytes}
use Rattle.packed_master.proofs.states.holds_bytes.Goals as goal

pub returns : goal.returns
unfolding holds_bytes
returns c = tab_of 0 48 _ _ c.loop-k.invariant.0 (λ i p. c.loop-k.invariant.1 i (omega arith))
