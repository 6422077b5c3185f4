-- By the test. Assumes nothing.
use Prim.Native.Nat.{◌+◌}
use mathlib.Core.Path.{ap}
use borrow.Author.Tests.{eq-eqb, ne_eqb}
use Rattle.set_reader.specs.Layout.{rowcount_of}
use Rattle.set_reader.proofs.layout.rowcount_of.Goals as goal

pub returns-then-s-eq-SHORT_LENGTH : goal.returns-then-s-eq-SHORT_LENGTH
unfolding rowcount_of
returns-then-s-eq-SHORT_LENGTH c = rw (eq-eqb _ _ c.if-s-eq-SHORT_LENGTH.true) c.byte_at.ensures

pub returns-else-s-eq-SHORT_LENGTH : goal.returns-else-s-eq-SHORT_LENGTH
unfolding rowcount_of
returns-else-s-eq-SHORT_LENGTH c = rw (ne_eqb _ _ c.if-s-eq-SHORT_LENGTH.false) (ap (λ x. 100 + x) c.byte_at-else-s-eq-SHORT_LENGTH.ensures)
