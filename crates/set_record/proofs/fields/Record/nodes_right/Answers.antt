-- By the tests. Assumes nothing.
use Rattle.std.proofs.Common.{rules, ◌≡◌, ◌∙◌, true, false, sym, ap}
use Rattle.base_lists.specs.Bounded.{all_to}
use Rattle.set_plan.specs.Rules.{node_right, nodes_right, between}
use Rattle.set_record.specs.Record.{plan_in}
use Rattle.set_record.proofs.fields.Record.nodes_right.Goals as goal

pub returns-then-contains : goal.returns-then-contains
unfolding nodes_right
returns-then-contains c =
    let p = plan_in c.args.self.bytes.now in
    let same : c.contains.result ≡ between 1 16 p.nodecount = search rules in
    let kept : between 1 16 p.nodecount ≡ true = sym same ∙ c.if-contains.true in
    rw kept (c.each_node_right.ensures ∙ ap (all_to (node_right p.nodes)) (c.from-then-contains.ensures ∙ c.node_count-count.ensures))

pub returns-else-contains : goal.returns-else-contains
unfolding nodes_right
returns-else-contains c =
    let same : c.contains.result ≡ between 1 16 (plan_in c.args.self.bytes.now).nodecount = search rules in
    let broken : between 1 16 (plan_in c.args.self.bytes.now).nodecount ≡ false = sym same ∙ c.if-contains.false in
    rw broken c.if-contains.false
