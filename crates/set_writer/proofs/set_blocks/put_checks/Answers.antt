-- Each check in its place. Assumes nothing.
use mathlib.Core.Path.{◌∙◌, ap}
use native.Mathlib.Omega.{arith}
use borrow.Author.Tests.{le-leb, lt-leb}
use Rattle.set_writer.specs.Write.{with_check, with_checks}
use Rattle.set_writer.proofs.SetLengths.{length_least, length_long}
use Rattle.set_writer.proofs.set_blocks.put_checks.Goals as goal

pub put_check-requires : goal.put_check-requires
put_check-requires c = omega (arith, length_least c.args.rowcount)

pub put_check-requires-2 : goal.put_check-requires-2
put_check-requires-2 c = omega (arith, length_least c.args.rowcount)

pub put_check-requires-then-rowcount-gt-BLOCK_ROWS : goal.put_check-requires-then-rowcount-gt-BLOCK_ROWS
put_check-requires-then-rowcount-gt-BLOCK_ROWS c = omega (arith, length_long c.args.rowcount (omega arith))

pub returns-then-rowcount-gt-BLOCK_ROWS : goal.returns-then-rowcount-gt-BLOCK_ROWS
unfolding with_checks
returns-then-rowcount-gt-BLOCK_ROWS c =
    rw (lt-leb c.args.rowcount 100 (omega arith))
    (c.put_check-then-rowcount-gt-BLOCK_ROWS.ensures ∙ ap (λ l. with_check l 2) (c.put_check-2.ensures ∙ ap (λ l. with_check l 1) c.put_check.ensures))

pub returns-else-rowcount-gt-BLOCK_ROWS : goal.returns-else-rowcount-gt-BLOCK_ROWS
unfolding with_checks
returns-else-rowcount-gt-BLOCK_ROWS c =
    rw (le-leb c.args.rowcount 100 (omega arith))
    (c.put_check-2.ensures ∙ ap (λ l. with_check l 1) c.put_check.ensures)
