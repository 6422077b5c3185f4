-- By the first space.
use Rattle.std.proofs.Common.{sym, ◌∙◌}
use Rattle.drill_line.proofs.Words.{split_none, split_range}
use Rattle.drill_line.proofs.split_once.Goals as goal

pub returns-in_err-space : goal.returns-in_err-space
returns-in_err-space c = rw c.from_residual.ensures (split_none _ (sym c.first_space.ensures ∙ c.in_err-space.was))

pub returns : goal.returns
returns c = split_range _ _ (sym c.first_space.ensures ∙ c.in_ok-space.was)
