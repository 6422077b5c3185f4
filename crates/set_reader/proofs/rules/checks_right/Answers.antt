-- By the tests, in their order. Assumes nothing.
use mathlib.Core.Path.{sym, ◌∙◌}
use borrow.Author.Tests.{eq-eqb, ne_eqb}
use Rattle.set_reader.specs.Rules.{checks_right}
use Rattle.set_reader.proofs.rules.checks_right.Goals as goal

pub returns-then-not-check_right : goal.returns-then-not-check_right
unfolding checks_right
returns-then-not-check_right c = rw (sym c.check_right.ensures ∙ c.if-not-check_right.true)

pub returns-then-not-check_right-2 : goal.returns-then-not-check_right-2
unfolding checks_right
returns-then-not-check_right-2 c = rw (sym c.check_right.ensures ∙ c.if-not-check_right.false, sym c.check_right-2.ensures ∙ c.if-not-check_right-2.true)

pub returns-then-s-eq-SHORT_LENGTH : goal.returns-then-s-eq-SHORT_LENGTH
unfolding checks_right
returns-then-s-eq-SHORT_LENGTH c = rw (sym c.check_right.ensures ∙ c.if-not-check_right.false, sym c.check_right-2.ensures ∙ c.if-not-check_right-2.false, eq-eqb _ _ c.if-s-eq-SHORT_LENGTH.true)

pub returns : goal.returns
unfolding checks_right
returns c = rw (sym c.check_right.ensures ∙ c.if-not-check_right.false, sym c.check_right-2.ensures ∙ c.if-not-check_right-2.false, ne_eqb _ _ c.if-s-eq-SHORT_LENGTH.false) c.check_right-3.ensures
