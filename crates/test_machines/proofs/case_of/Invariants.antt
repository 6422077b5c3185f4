-- A number takes a byte at least, where there is one.
use Rattle.std.proofs.Common.{length, ◌-◌, ◌≤◌, ◌<◌}
use Rattle.test_machines.proofs.case_of.Given as goal

abbrev pub invariant-loop-value : goal.invariant-loop-value
invariant-loop-value l = (length l.rest ≤ length l.text) × (0 < l.value-index → length l.rest ≤ length l.text - 1)
