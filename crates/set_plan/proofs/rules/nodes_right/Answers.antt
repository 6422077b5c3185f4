-- By the tests. Assumes nothing.
use Rattle.std.proofs.Common.{rules, ◌≡◌, ◌∙◌, true, false, sym, ap}
use Rattle.base_lists.specs.Bounded.{all_to}
use Rattle.set_plan.specs.Rules.{node_right, nodes_right, between}
use Rattle.set_plan.proofs.rules.nodes_right.Goals as goal

pub returns-then-contains : goal.returns-then-contains
unfolding nodes_right
returns-then-contains c =
    let p = c.args.p in
    let same : c.contains.result ≡ between 1 16 p.nodecount = search rules in
    let kept : between 1 16 p.nodecount ≡ true = sym same ∙ c.if-contains.true in
    rw kept (c.each_node_right.ensures p.nodes (λ k e h post. search rules) ∙ ap (all_to (node_right p.nodes)) c.from-then-contains.ensures)

pub returns-else-contains : goal.returns-else-contains
unfolding nodes_right
returns-else-contains c =
    let same : c.contains.result ≡ between 1 16 c.args.p.nodecount = search rules in
    let broken : between 1 16 c.args.p.nodecount ≡ false = sym same ∙ c.if-contains.false in
    rw broken c.if-contains.false
