-- By ranges. Assumes nothing.
use Rattle.set_reader.proofs.Filler.{message_runs}
use borrow.Author.Rules.{rules}
use Rattle.set_reader.proofs.rules.message_filler.Goals as goal

pub returns : goal.returns
returns c = message_runs _ _ (search rules) _ _ _ (rw c.byte_at.ensures at c.filler_start-start.ensures) c.are_zero.ensures c.are_zero-2.ensures
