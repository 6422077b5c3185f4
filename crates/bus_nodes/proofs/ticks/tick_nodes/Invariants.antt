-- The nodes passed have ticked, and those of them that called are known. Assumes nothing.
use mathlib.Core.Path.{◌≡◌}
use lib.ListN.{length}
use Rattle.bus_nodes.specs.Ticks.{ticked_nodes, tick_callers}
use Rattle.bus_nodes.proofs.ticks.tick_nodes.Given as goal

abbrev pub invariant-loop-i : goal.invariant-loop-i
invariant-loop-i l = (length l.nodes ≡ 16) × (l.nodes ≡ ticked_nodes l.sleeps l.times l.clock l.i l.initial.nodes) × (l.callers ≡ tick_callers l.sleeps l.times l.clock l.i l.initial.nodes)
