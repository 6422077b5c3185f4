-- One text after the other.
use Rattle.base_text.proofs.Appends.{wrote_then}
use Rattle.program_arguments.specs.Arguments.{help_text}
use Rattle.program_arguments.proofs.append_help.Goals as goal

pub returns : goal.returns
unfolding help_text
returns c = wrote_then _ _ _ (wrote_then _ _ _ c.append_usage.ensures c.append.ensures) c.append-2.ensures
