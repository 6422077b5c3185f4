-- By the nodes so far.
use mathlib.Core.Path.{◌≡◌}
use Rattle.base_text.specs.Text.{wrote}
use Rattle.drill_text.specs.Lines.{nodes_text}
use Rattle.drill_text.proofs.append_nodes.Given as goal

abbrev pub invariant-loop-node : goal.invariant-loop-node
invariant-loop-node l = l.out ≡ wrote (nodes_text l.nodes l.node-index) l.initial.out
