-- The test so far is that of the definition. Assumes nothing.
use mathlib.Core.Path.{◌≡◌}
use Rattle.base_lists.specs.Bounded.{all_to}
use Rattle.packed_master.specs.States.{flag_at}
use Rattle.packed_master.proofs.states.flags_right.Given as goal

abbrev pub invariant-loop-k : goal.invariant-loop-k
invariant-loop-k l = l.right ≡ all_to (flag_at l.bytes) l.k
