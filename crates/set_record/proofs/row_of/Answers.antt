use borrow.Author.Rules.{rules}
use Rattle.base_lists.specs.Bounded.{first_to}
use Rattle.set_plan.specs.Record.{zero_plan}
use Rattle.set_plan.specs.Find.{find_row, row_among}
use Rattle.set_record.proofs.row_of.Goals as goal

pub returns : goal.returns
unfolding zero_plan find_row row_among first_to
returns c = search rules
