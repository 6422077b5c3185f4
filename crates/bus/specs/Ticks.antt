-- A tick: "master, nodes ascending, each seeing the clock as the master left it".
use Rattle.std.specs.Prelude.{ℕ, Bool, ◌&&◌}
use Rattle.set_plan.specs.declared.Times.{Times}
use Rattle.machine_master.specs.declared.Reply.{Reply}
use Rattle.machine_master.specs.Clock.{clock_on, is_off}
use Rattle.machine_master.specs.Ticks.{tick_step}
use Rattle.bus_nodes.specs.declared.Ticked.{Ticked}
use Rattle.bus_nodes.specs.Pulses.{any_called}
use Rattle.bus_nodes.specs.Ticks.{tick_nodes}
use Rattle.bus.specs.declared.Bus.{Bus}
use Rattle.bus.specs.declared.Moved.{Moved}
use Rattle.bus.specs.declared.World.{World}
use Rattle.bus.specs.Passed.{ticked}
use Rattle.bus.specs.Pulses.{spread}

-- the master's reply to its tick, then the nodes
abbrev pub tick_after : ℕ → Bus → Reply → Ticked → Moved
tick_after count bus reply nodes =
    record {
      world = spread count nodes.callers bus (record { master = reply.master; nodes = nodes.nodes });
      refusal = reply.refusal;
      passed = ticked (clock_on reply.master) (is_off reply.command) (any_called nodes.callers && bus.master);
    }

abbrev pub tick_move : Bool → Times → ℕ → Bus → World → Moved
tick_move sleeps t count bus w =
    tick_after count bus (tick_step t w.master) (tick_nodes sleeps t (clock_on (tick_step t w.master).master) count w.nodes)
