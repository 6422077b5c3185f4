-- By computation. Assumes nothing.
use Rattle.set_plan.specs.Record.{zero_plan}
use borrow.Author.Rules.{rules}
use Rattle.set_plan.proofs.Plan.zero.Goals as goal

pub returns : goal.returns
unfolding zero_plan
returns c = search rules
