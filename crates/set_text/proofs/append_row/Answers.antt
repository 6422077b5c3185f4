-- One text after the other.
use Rattle.base_text.proofs.Appends.{wrote_then}
use Rattle.set_text.specs.Show.{row_line}
use Rattle.set_text.proofs.append_row.Goals as goal

pub returns : goal.returns
unfolding row_line
returns c = wrote_then _ _ _ (wrote_then _ _ _ (wrote_then _ _ _ (wrote_then _ _ _ c.append.ensures c.decimal.ensures) c.append-2.ensures) c.append_publisher.ensures) c.append_length_and_count.ensures
