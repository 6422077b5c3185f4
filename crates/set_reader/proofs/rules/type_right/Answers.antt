-- By computation. Assumes nothing.
use Rattle.set_reader.specs.Rules.{type_right}
use Rattle.set_reader.proofs.rules.type_right.Goals as goal

pub returns : goal.returns
unfolding type_right
returns c = cc
