-- By the lines so far.
use mathlib.Core.Path.{◌≡◌}
use Rattle.base_text.specs.Text.{wrote}
use Rattle.set_text.specs.Show.{nodes_text}
use Rattle.set_text.proofs.append_nodes.Given as goal

abbrev pub invariant-loop-k : goal.invariant-loop-k
invariant-loop-k l = l.out ≡ wrote (nodes_text l.nodes l.k) l.initial.out
