-- The counts of a read set are few.
use Rattle.set_text.proofs.ShownSets.{counts_few}
use Rattle.set_text.proofs.show.Goals as goal

pub append_result-requires : goal.append_result-requires
append_result-requires c = rw c.read.ensures (counts_few _)
