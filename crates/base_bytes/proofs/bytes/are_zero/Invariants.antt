-- The test so far is that of the definition; past the end all is zero. Assumes nothing.
use Rattle.std.proofs.Common.{◌≡◌}
use Rattle.base_lists.specs.Bounded.{all_to}
use Rattle.base_bytes.specs.Bytes.{is_zero}
use Rattle.base_bytes.proofs.bytes.are_zero.Given as goal

abbrev pub invariant-loop-i : goal.invariant-loop-i
invariant-loop-i l = l.clear ≡ all_to (is_zero l.bytes l.start) l.i
