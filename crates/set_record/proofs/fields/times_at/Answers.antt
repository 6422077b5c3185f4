-- By computation. Assumes nothing.
use Rattle.set_record.specs.Entries.{times_from}
use Rattle.set_record.proofs.fields.times_at.Goals as goal

pub returns : goal.returns
unfolding times_from
returns c = cc
