-- How many counts so far are not below the limit: none where the test holds of each. Assumes nothing.
use Prim.Native.Nat.{◌≤◌}
use mathlib.Core.Path.{◌≡◌}
use lib.Dec.{eqb}
use Rattle.base_lists.specs.Bounded.{all_to}
use Rattle.machine_state.specs.Counts.{count_below}
use Rattle.machine_state.proofs.counts_below.Given as goal

abbrev pub invariant-loop-count : goal.invariant-loop-count
invariant-loop-count l = (l.above ≤ l.count-index) × (eqb l.above 0 ≡ all_to (count_below l.limit l.fn.counts) l.count-index)
