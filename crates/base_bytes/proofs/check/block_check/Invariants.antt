-- The totals so far are those of the block's check, whose total of totals is the sum of products. Assumes nothing.
use Rattle.std.proofs.Common.{◌≡◌, ◌-◌}
use Rattle.base_bytes.specs.Check.{running_total, total_of_totals}
use Rattle.base_bytes.proofs.check.block_check.Given as goal

abbrev pub invariant-loop-i : goal.invariant-loop-i
invariant-loop-i l = record {
  total : l.total ≡ running_total l.bytes l.start (510 - l.i);
  totals : l.totals ≡ total_of_totals l.bytes l.start (510 - l.i);
}
