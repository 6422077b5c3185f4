-- By computation. Assumes nothing.
use Rattle.set_reader.specs.Rules.{revision_same}
use Rattle.set_reader.proofs.rules.revision_same.Goals as goal

pub returns : goal.returns
unfolding revision_same
returns c = cc
