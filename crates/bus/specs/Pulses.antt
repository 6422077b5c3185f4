-- Wake-up pulses that reach the others.
use Rattle.std.specs.Prelude.{ℕ}
use Rattle.base_lists.specs.Bounded.{if_else}
use Rattle.machine_master.specs.Waking.{wake_up_step}
use Rattle.bus_nodes.specs.declared.Callers.{Callers}
use Rattle.bus_nodes.specs.declared.Message.{Message}
use Rattle.bus_nodes.specs.Pulses.{any_called, reach_all}
use Rattle.bus.specs.declared.Bus.{Bus}
use Rattle.bus.specs.declared.World.{World}

-- "then pulses reach the others or are lost"
abbrev pub spread : ℕ → Callers → Bus → World → World
spread count callers bus w =
    if_else (any_called callers)
    (if_else bus.master
    (record { master = (wake_up_step w.master).master; nodes = reach_all (Message.Pulse callers) bus.hearing count w.nodes })
    (record { master = w.master; nodes = reach_all (Message.Pulse callers) bus.hearing count w.nodes }))
    w
