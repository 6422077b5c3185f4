-- The test of the places passed. Assumes nothing.
use Rattle.std.proofs.Common.{◌≡◌, ◌&&◌}
use Rattle.base_lists.specs.Bounded.{all_to}
use Rattle.machine_master.specs.Range.{hold_right_at, cause_right_at}
use Rattle.machine_master.proofs.range.nodes_right.Given as goal

abbrev pub invariant-loop-i : goal.invariant-loop-i
invariant-loop-i l = l.right ≡ (all_to (hold_right_at l.nodecount l.window l.fn.holds) l.i && all_to (cause_right_at l.normal l.nodecount l.fn.holds l.causes) l.i)
