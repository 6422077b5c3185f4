-- The nodes passed have ticked, and those of them that called are known. Assumes nothing.
use mathlib.Core.Path.{refl, ap, sym, ◌∙◌}
use lib.ListN.{get_or}
use lib.Seq.{set-get_or}
use borrow.Author.Rules.{rules}
use Rattle.machine_node.specs.declared.Command.{Command}
use Rattle.machine_node.specs.declared.Node.{Node}
use Rattle.machine_node.specs.declared.Reply.{Reply}
use Rattle.machine_node.specs.Ticks.{tick_step}
use Rattle.bus_nodes.specs.Nodes.{no_node, node_at}
use Rattle.bus_nodes.proofs.EachOne.{each_more, each_next}
use Rattle.bus_nodes.proofs.Resting.{rests_still}
use Rattle.bus_nodes.proofs.WhoCalls.{callers_more}
use Rattle.bus_nodes.proofs.ticks.tick_nodes.Goals as goal

pub loop-i-preserved-then-rests : goal.loop-i-preserved-then-rests
loop-i-preserved-then-rests c =
    let at = c.loop-i in
    let a = c.args in
    let node = get_or at.nodes at.i no_node in
    let still = sym (rests_still a.sleeps a.times a.clock node (sym c.rests.ensures ∙ c.if-rests.true)) in
    let same = each_next _ a.nodes at.nodes at.i no_node at.invariant.1 in (
      at.invariant.0,
      sym (set-get_or at.nodes at.i no_node) ∙ each_more _ _ _ _ node no_node at.invariant.1 (ap (λ (r : Reply). r.node) still),
      callers_more (λ k. (tick_step a.sleeps a.times a.clock (node_at a.nodes k)).command) at.i at.callers at.callers Command.Nothing at.invariant.2 (ap (λ (r : Reply). r.command) still ∙ ap (λ (n : Node). (tick_step a.sleeps a.times a.clock n).command) same) refl,
    )

pub loop-i-preserved : goal.loop-i-preserved
loop-i-preserved c =
    let at = c.loop-i in
    let a = c.args in
    let told = c.tick-reply.ensures in
    let same = each_next _ a.nodes at.nodes at.i no_node at.invariant.1 in (
      search rules,
      each_more _ _ _ _ _ _ at.invariant.1 (ap (λ (r : Reply). r.node) told),
      callers_more _ _ _ _ _ at.invariant.2 (ap (λ (r : Reply). r.command) told ∙ ap (λ (n : Node). (tick_step a.sleeps a.times a.clock n).command) same) c.with_caller-callers.ensures,
    )
