-- By the two ranges' tests. Assumes nothing.
use Rattle.std.proofs.Common.{rules, ◌≡◌}
use Rattle.set_plan.specs.Rules.{entry_right, between}
use Rattle.set_plan.proofs.rules.entry_right.Goals as goal

pub returns : goal.returns
unfolding entry_right
returns c =
    let a : c.contains.result ≡ between 1 125 c.args.e.address = search rules in
    let b : c.contains-2.result ≡ between 1 3 c.args.e.class = search rules in
    rw (a, b)
