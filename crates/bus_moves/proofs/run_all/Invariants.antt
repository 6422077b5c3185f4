-- The records so far are moves, and the world is that of these moves. Assumes nothing.
use Prim.Native.Nat.{ℕ}
use mathlib.Core.Path.{◌≡◌}
use mathlib.Core.Bool.{true}
use Rattle.base_lists.specs.Bounded.{all_to, tab}
use Rattle.bus_history.specs.Run.{run}
use Rattle.bus_moves.specs.Decoding.{move_of, is_move}
use Rattle.bus_moves.specs.Records.{record_at}
use Rattle.bus_moves.proofs.run_all.Given as goal

abbrev pub invariant-loop-k : goal.invariant-loop-k
invariant-loop-k l = (all_to (λ (i : ℕ). is_move (record_at l.moves i)) l.k ≡ true) × (l.world ≡ (run l.plan (tab l.k (λ (i : ℕ). move_of (record_at l.moves i)))).world)
