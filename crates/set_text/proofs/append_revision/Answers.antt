-- One text after the other.
use Rattle.base_text.proofs.Appends.{wrote_then}
use Rattle.set_text.specs.Show.{revision_line}
use Rattle.set_text.proofs.append_revision.Goals as goal

pub returns : goal.returns
unfolding revision_line
returns c = wrote_then _ _ _ (wrote_then _ _ _ c.append.ensures c.decimal.ensures) c.append-2.ensures
