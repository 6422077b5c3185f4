-- By computation. Assumes nothing.
use Rattle.set_reader.specs.Rules.{check_right}
use Rattle.set_reader.proofs.rules.check_right.Goals as goal

pub returns : goal.returns
unfolding check_right
returns c = cc
