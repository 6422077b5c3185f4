-- The places passed hold what the definition says. Assumes nothing.
use Prim.Native.Nat.{ℕ, ◌<◌}
use mathlib.Core.Path.{◌≡◌}
use lib.ListN.{length, get_or}
use Rattle.machine_master.specs.Changes.{no_hold}
use Rattle.packed_master.specs.States.{hold_of}
use Rattle.packed_master.proofs.states.holds_of.Given as goal

abbrev pub invariant-loop-k : goal.invariant-loop-k
invariant-loop-k l = (length l.holds ≡ 16) × ((i : ℕ) → i < l.k → get_or l.holds i no_hold ≡ hold_of l.bytes i)
