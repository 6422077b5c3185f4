-- The limits of all machines' fields, by which 11 is judged.
use Rattle.std.specs.Prelude.{ℕ, Bool, ◌&&◌}
use Rattle.base_lists.specs.Bounded.{all_to}
use Rattle.set_plan.specs.declared.Times.{Times}
use Rattle.machine_master.specs.Range.{in_range}
use Rattle.bus.specs.declared.World.{World}
use Rattle.bus_nodes.specs.Nodes.{nodes_used, node_in_range}

unfoldable pub world_in_range : Bool → ℕ → Times → World → Bool
world_in_range sleeps nodecount t w = in_range sleeps nodecount t w.master && all_to (node_in_range sleeps t w.nodes) (nodes_used nodecount)
