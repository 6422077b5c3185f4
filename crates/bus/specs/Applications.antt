-- Moves of the applications: asks to wake and permissions.
use Rattle.std.specs.Prelude.{ℕ, Bool, true, ◌&&◌, ltb}
use Rattle.base_lists.specs.Bounded.{if_else}
use Rattle.machine_node.specs.declared.Reply.{Reply}
use Rattle.machine_node.specs.Waking as NodeWaking
use Rattle.machine_master.specs.Waking as MasterWaking
use Rattle.bus.specs.declared.Bus.{Bus}
use Rattle.bus_nodes.specs.declared.Callers.{Callers}
use Rattle.bus.specs.declared.Moved.{Moved}
use Rattle.bus.specs.declared.World.{World}
use Rattle.bus_nodes.specs.Pulses.{with_caller, any_called}
use Rattle.bus.specs.Pulses.{spread}
use Rattle.bus.specs.Passed.{asked, master_permits, node_permits}
use Rattle.bus_nodes.specs.Nodes.{node_at}
use Rattle.bus.specs.World.{with_master, with_node, stays}

-- 11: a "node number out of range"
abbrev pub of_node : ℕ → ℕ → World → Moved → Moved
of_node count node w o = if_else (ltb node count) o (stays w 11)

-- a node's reply to its application's ask, and who called by it
abbrev pub wake_ask_after : ℕ → ℕ → Bus → World → Reply → Callers → Moved
wake_ask_after count node bus w reply callers =
    record {
      world = spread count callers bus (with_node node reply.node w);
      refusal = reply.refusal;
      passed = asked (any_called callers && bus.master);
    }

abbrev pub wake_ask_by : ℕ → ℕ → Bus → World → Reply → Moved
wake_ask_by count node bus w reply = wake_ask_after count node bus w reply (with_caller Callers.Nobody node reply.command)

abbrev pub node_wake_ask : Bool → ℕ → ℕ → Bus → World → Moved
node_wake_ask sleeps count node bus w = of_node count node w (wake_ask_by count node bus w (NodeWaking.wake_ask_step sleeps (node_at w.nodes node)))

abbrev pub master_wake_ask : World → Moved
master_wake_ask w =
    record { world = with_master (MasterWaking.wake_up_step w.master).master w; refusal = (MasterWaking.wake_up_step w.master).refusal; passed = asked true }

abbrev pub permission_by : ℕ → Bool → World → Reply → Moved
permission_by node permitted w reply =
    record { world = with_node node reply.node w; refusal = reply.refusal; passed = node_permits node permitted }

abbrev pub node_permission : Bool → ℕ → ℕ → Bool → World → Moved
node_permission sleeps count node permitted w =
    of_node count node w (permission_by node permitted w (NodeWaking.permission_step sleeps permitted (node_at w.nodes node)))

abbrev pub master_permission : Bool → World → Moved
master_permission permitted w =
    record {
      world = with_master (MasterWaking.permission_step permitted w.master).master w;
      refusal = (MasterWaking.permission_step permitted w.master).refusal;
      passed = master_permits permitted;
    }
