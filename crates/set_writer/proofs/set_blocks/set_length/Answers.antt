-- By the test. Assumes nothing.
use borrow.Author.Tests.{le-leb, lt-leb}
use Rattle.set_writer.specs.Write.{set_length}
use Rattle.set_writer.proofs.set_blocks.set_length.Goals as goal

pub returns-then-rowcount-le-BLOCK_ROWS : goal.returns-then-rowcount-le-BLOCK_ROWS
unfolding set_length
returns-then-rowcount-le-BLOCK_ROWS c = rw (le-leb _ _ c.if-rowcount-le-BLOCK_ROWS.true)

pub returns-else-rowcount-le-BLOCK_ROWS : goal.returns-else-rowcount-le-BLOCK_ROWS
unfolding set_length
returns-else-rowcount-le-BLOCK_ROWS c = rw (lt-leb _ _ c.if-rowcount-le-BLOCK_ROWS.false)
