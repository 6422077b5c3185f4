use borrow.Author.Rules.{rules}
use Rattle.set_plan.specs.Record.{zero_plan}
use Rattle.set_plan.specs.Find.{rising_row, last_among}
use Rattle.set_record.proofs.rising_row_of.Goals as goal

pub returns : goal.returns
unfolding zero_plan rising_row last_among
returns c = search rules
