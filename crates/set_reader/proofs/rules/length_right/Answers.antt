-- By computation. Assumes nothing.
use Rattle.set_reader.specs.Rules.{length_right}
use borrow.Author.Rules.{rules}
use Rattle.set_reader.proofs.rules.length_right.Goals as goal

pub returns : goal.returns
unfolding length_right
returns c = search rules
