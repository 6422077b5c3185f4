-- The nodes of a bus as a table of sixteen places, of which a plan uses the first.
use Rattle.std.specs.Prelude.{ℕ, min, Bool, false, List, [], get_or, None}
use Rattle.machine_state.specs.declared.State.{State}
use Rattle.set_plan.specs.declared.Times.{Times}
use Rattle.set_plan.specs.Limits.{max_nodes}
use Rattle.machine_node.specs.declared.Node.{Node}
use Rattle.machine_node.specs.Range.{in_range}

-- of so many nodes those that the table has places for: all of an accepted plan's
abbrev pub nodes_used : ℕ → ℕ
nodes_used nodecount = min nodecount max_nodes

-- what a read past the last place gives
abbrev pub no_node : Node
no_node =
    record {
      state = State.Normal;
      permission = false;
      error = false;
      wake = false;
      heard = false;
      caller = false;
      quiet = 0;
      delay = None;
      standby = 0;
      counts = [];
    }

abbrev pub node_at : List Node → ℕ → Node
node_at nodes k = get_or nodes k no_node

-- a node within its limits, by which 11 is judged
unfoldable pub node_in_range : Bool → Times → List Node → ℕ → Bool
node_in_range sleeps t nodes k = in_range sleeps t (node_at nodes k)
