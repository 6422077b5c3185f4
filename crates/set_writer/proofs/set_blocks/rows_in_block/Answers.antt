-- By the tests. Assumes nothing.
use native.Mathlib.Omega.{arith}
use borrow.Author.Tests.{eq-eqb, ne_eqb}
use Rattle.set_writer.specs.Write.{rows_in_block}
use borrow.Author.Rules.{rules}
use Rattle.set_writer.proofs.set_blocks.rows_in_block.Goals as goal

pub returns-then-b-eq1 : goal.returns-then-b-eq1
unfolding rows_in_block
returns-then-b-eq1 c = (rw (eq-eqb c.args.b 1 (omega arith)) c.min-first.ensures, search rules, search rules)

pub returns-else-b-eq1 : goal.returns-else-b-eq1
unfolding rows_in_block
returns-else-b-eq1 c = (rw (ne_eqb c.args.b 1 (λ e. omega arith)) (omega arith), search rules, search rules)
