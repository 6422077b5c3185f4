-- One text after the other.
use Rattle.base_text.proofs.Appends.{wrote_then}
use Rattle.program_arguments.specs.Arguments.{usage_text}
use Rattle.program_arguments.proofs.append_usage.Goals as goal

pub returns : goal.returns
unfolding usage_text
returns c = wrote_then _ _ _ (wrote_then _ _ _ c.append.ensures c.append-2.ensures) c.append-3.ensures
