-- The places so far hold their bytes, the others zero, as past the end. Assumes nothing.
use Prim.Native.Nat.{ℕ, ◌+◌, ◌≤◌, ◌<◌}
use mathlib.Core.Path.{◌≡◌}
use lib.ListN.{length, get_or}
use Rattle.base_bytes.specs.Bytes.{byte}
use Rattle.machine_state.proofs.bytes.bytes_at.Given as goal

abbrev pub invariant-loop-i : goal.invariant-loop-i
invariant-loop-i g l = (length l.table ≡ g.row.N) × ((k : ℕ) → k < l.i → get_or l.table k 0 ≡ byte l.bytes (l.start + k)) × ((k : ℕ) → l.i ≤ k → k < g.row.N → get_or l.table k 0 ≡ 0)
