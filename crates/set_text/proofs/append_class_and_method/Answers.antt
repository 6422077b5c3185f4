-- One text after the other.
use Rattle.base_text.proofs.Appends.{wrote_then}
use Rattle.set_text.specs.Show.{class_and_method_text}
use Rattle.set_text.proofs.append_class_and_method.Goals as goal

pub returns : goal.returns
unfolding class_and_method_text
returns c = wrote_then _ _ _ (wrote_then _ _ _ (wrote_then _ _ _ (wrote_then _ _ _ c.append.ensures c.decimal.ensures) c.append-2.ensures) c.append_method.ensures) c.append-3.ensures
