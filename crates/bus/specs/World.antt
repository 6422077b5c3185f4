-- The machines on the bus, and what a move gives.
use Rattle.std.specs.Prelude.{ℕ, Bool, List, set, replicate}
use Rattle.set_plan.specs.Limits.{max_nodes}
use Rattle.machine_node.specs.declared.Node.{Node}
use Rattle.machine_node.specs.Changes as NodeChanges
use Rattle.machine_master.specs.declared.Master.{Master}
use Rattle.machine_master.specs.Changes as MasterChanges
use Rattle.bus.specs.declared.World.{World}
use Rattle.bus.specs.declared.Moved.{Moved}
use Rattle.bus.specs.Passed.{nothing}

-- "The first starts from power-on"
abbrev pub power_on : Bool → World
power_on sleeps = record { master = MasterChanges.power_on sleeps; nodes = replicate max_nodes (NodeChanges.power_on sleeps) }

abbrev pub with_master : Master → World → World
with_master m w = record { master = m; nodes = w.nodes }

abbrev pub with_nodes : List Node → World → World
with_nodes nodes w = record { master = w.master; nodes = nodes }

abbrev pub with_node : ℕ → Node → World → World
with_node k n w = with_nodes (set w.nodes k n) w

-- nothing passed, and no machine moved
abbrev pub stays : World → ℕ → Moved
stays w refusal = record { world = w; refusal = refusal; passed = nothing }
