-- A tick of the nodes: those after it, and those of them that call.
use Rattle.std.specs.Prelude.{ℕ, Bool, List}
use Rattle.set_plan.specs.declared.Times.{Times}
use Rattle.machine_node.specs.declared.Node.{Node}
use Rattle.machine_node.specs.Ticks.{tick_step}
use Rattle.bus_nodes.specs.declared.Callers.{Callers}
use Rattle.bus_nodes.specs.declared.Ticked.{Ticked}
use Rattle.bus_nodes.specs.Each.{each_to}
use Rattle.bus_nodes.specs.Nodes.{node_at}
use Rattle.bus_nodes.specs.Pulses.{callers_to}

abbrev pub ticked_nodes : Bool → Times → Bool → ℕ → List Node → List Node
ticked_nodes sleeps t clock count nodes = each_to (λ k n. (tick_step sleeps t clock n).node) count nodes

abbrev pub tick_callers : Bool → Times → Bool → ℕ → List Node → Callers
tick_callers sleeps t clock count nodes = callers_to (λ k. (tick_step sleeps t clock (node_at nodes k)).command) count

abbrev pub tick_nodes : Bool → Times → Bool → ℕ → List Node → Ticked
tick_nodes sleeps t clock count nodes = record { nodes = ticked_nodes sleeps t clock count nodes; callers = tick_callers sleeps t clock count nodes }
