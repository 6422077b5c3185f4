-- The nodes passed have received the message where it reached them. Assumes nothing.
use mathlib.Core.Path.{◌≡◌}
use lib.ListN.{length}
use Rattle.bus_nodes.specs.Pulses.{reach_all}
use Rattle.bus_nodes.proofs.pulses.reach_all.Given as goal

abbrev pub invariant-loop-i : goal.invariant-loop-i
invariant-loop-i l = (length l.nodes ≡ 16) × (l.nodes ≡ reach_all l.message l.reached l.i l.initial.nodes)
