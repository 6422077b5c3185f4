-- By what the calls ensure. Assumes nothing.
use Rattle.set_reader.specs.Rules.{counts_right}
use Rattle.set_reader.proofs.rules.counts_right.Goals as goal

pub returns : goal.returns
unfolding counts_right
returns c =
    rw (
      c.between-2.ensures,
      c.between.ensures,
      c.byte_at-second.ensures,
      c.byte_at-first.ensures,
    )
