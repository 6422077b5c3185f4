-- By the tests. Assumes nothing.
use Rattle.std.proofs.Common.{arith, rules, ◌≡◌, ◌≤◌, ◌∙◌, true, false, sym, ap}
use Rattle.base_lists.specs.Bounded.{all_to}
use Rattle.base_lists.proofs.AllAny.{halves}
use Rattle.set_plan.specs.Record.{rows_used}
use Rattle.set_plan.specs.Rules.{row_right, rows_right, between}
use Rattle.set_plan.proofs.InUse.{used_right}
use Rattle.set_plan.proofs.rules.rows_right.Goals as goal

pub returns-then-contains : goal.returns-then-contains
unfolding rows_right
returns-then-contains c =
    let p = c.args.p in
    let used = c.rows_in_use.result.now in
    let same : c.contains.result ≡ between 1 127 p.rowcount = search rules in
    let kept : between 1 127 p.rowcount ≡ true = sym same ∙ c.if-contains.true in
    let few : p.rowcount ≤ 127 = search halves in
    let n : rows_used p.rowcount ≡ p.rowcount = omega arith in
    rw kept (c.each_row_right.ensures ∙ ap (all_to (row_right p.nodecount used)) (c.rows_in_use.ensures.1 ∙ n)
    ∙ used_right p.rows used p.rowcount (rw n at c.rows_in_use.ensures.0) p.nodecount)

pub returns-else-contains : goal.returns-else-contains
unfolding rows_right
returns-else-contains c =
    let same : c.contains.result ≡ between 1 127 c.args.p.rowcount = search rules in
    let broken : between 1 127 c.args.p.rowcount ≡ false = sym same ∙ c.if-contains.false in
    rw broken c.if-contains.false
