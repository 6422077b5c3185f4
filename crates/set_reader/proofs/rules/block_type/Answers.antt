-- By the test. Assumes nothing.
use borrow.Author.Tests.{eq-eqb, ne_eqb}
use Rattle.set_reader.specs.Rules.{block_type}
use Rattle.set_reader.proofs.rules.block_type.Goals as goal

pub returns-then-b-eq0 : goal.returns-then-b-eq0
unfolding block_type
returns-then-b-eq0 c = rw (eq-eqb _ _ c.if-b-eq0.true)

pub returns-else-b-eq0 : goal.returns-else-b-eq0
unfolding block_type
returns-else-b-eq0 c = rw (ne_eqb _ _ c.if-b-eq0.false)
