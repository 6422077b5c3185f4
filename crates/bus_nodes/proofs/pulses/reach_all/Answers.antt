-- The nodes passed have received the message where it reached them. Assumes nothing.
use mathlib.Core.Path.{sym, ◌∙◌}
use mathlib.Core.Bool.{false}
use borrow.Author.Rules.{rules}
use lib.ListN.{get_or}
use lib.Seq.{set-get_or}
use Rattle.bus_nodes.specs.Nodes.{no_node}
use Rattle.bus_nodes.proofs.EachOne.{each_more}
use Rattle.bus_nodes.proofs.Resting.{untouched_still, touched_receives}
use Rattle.bus_nodes.proofs.pulses.reach_all.Goals as goal

pub loop-i-preserved-then-untouched : goal.loop-i-preserved-then-untouched
loop-i-preserved-then-untouched c =
    let at = c.loop-i in
    let a = c.args in
    let node = get_or at.nodes at.i no_node in
    let still = untouched_still (get_or a.reached at.i false) a.message at.i node (sym c.untouched.ensures ∙ c.if-untouched.true) in
    (at.invariant.0, sym (set-get_or at.nodes at.i no_node) ∙ each_more _ _ _ _ node no_node at.invariant.1 (sym still))

pub loop-i-preserved : goal.loop-i-preserved
loop-i-preserved c =
    let at = c.loop-i in
    let a = c.args in
    let node = get_or at.nodes at.i no_node in
    let touched = touched_receives (get_or a.reached at.i false) a.message at.i node (sym c.untouched.ensures ∙ c.if-untouched.false) in
    (search rules, each_more _ _ _ _ _ no_node at.invariant.1 (c.receive.ensures ∙ sym touched))
