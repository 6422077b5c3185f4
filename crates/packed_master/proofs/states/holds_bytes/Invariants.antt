-- Three bytes a turn. Assumes nothing.
use Prim.Native.Nat.{ℕ, ◌<◌, ◌*◌}
use mathlib.Core.Path.{◌≡◌}
use lib.ListN.{length, get_or}
use Rattle.packed_master.specs.States.{hold_byte_at}
use Rattle.packed_master.proofs.states.holds_bytes.Given as goal

abbrev pub invariant-loop-k : goal.invariant-loop-k
invariant-loop-k l = (length l.bytes ≡ 48) × ((i : ℕ) → i < 3 * l.k → get_or l.bytes i 0 ≡ hold_byte_at l.fn.holds i)
