-- A move on the bus.
use Rattle.std.specs.Prelude.{eqb}
use Rattle.base_lists.specs.Bounded.{if_else}
use Rattle.set_plan.specs.declared.Plan.{Plan}
use Rattle.set_plan.specs.Profile.{sleeps}
use Rattle.set_plan.specs.Rules.{plan_refusal}
use Rattle.bus.specs.declared.Act.{Act}
use Rattle.bus.specs.declared.Bus.{Bus}
use Rattle.bus.specs.declared.Move.{Move}
use Rattle.bus.specs.declared.Moved.{Moved}
use Rattle.bus.specs.declared.World.{World}
use Rattle.bus.specs.Messages.{request_move, send_ask_move, sleep_ask_move, send_result_move}
use Rattle.bus.specs.Applications.{node_wake_ask, master_wake_ask, node_permission, master_permission}
use Rattle.bus.specs.Range.{world_in_range}
use Rattle.bus.specs.Ticks.{tick_move}
use Rattle.bus_nodes.specs.Nodes.{nodes_used}
use Rattle.bus.specs.World.{stays}

-- "Moves are: a tick; an ask to wake or a permission, a node's or the master's; a request; a node's ask to send; a sleep ask; a send result"
abbrev pub act_by : Plan → World → Bus → Act → Moved
act_by p w bus Act.Tick = tick_move (sleeps p) p.times (nodes_used p.nodecount) bus w
act_by p w bus (Act.NodeWakeAsk node) = node_wake_ask (sleeps p) (nodes_used p.nodecount) node bus w
act_by p w bus Act.MasterWakeAsk = master_wake_ask w
act_by p w bus (Act.NodePermission node permitted) = node_permission (sleeps p) (nodes_used p.nodecount) node permitted w
act_by p w bus (Act.MasterPermission permitted) = master_permission permitted w
act_by p w bus (Act.Request reqid) = request_move p (nodes_used p.nodecount) reqid bus w
act_by p w bus (Act.SendAsk node reqid) = send_ask_move p (nodes_used p.nodecount) node reqid bus w
act_by p w bus Act.SleepAsk = sleep_ask_move (sleeps p) p.nodecount w
act_by p w bus (Act.SendResult sent) = send_result_move (nodes_used p.nodecount) sent bus w

-- what a move does, once plan and world are judged
abbrev pub world_act : Plan → World → Move → Moved
world_act p w m = act_by p w m.bus m.act

-- "plan 4 to 8 first, then 11", and 3 "before 4"
abbrev pub world_step : Plan → World → Move → Moved
world_step p w m =
    if_else (eqb (plan_refusal p) 0)
    (if_else (world_in_range (sleeps p) p.nodecount p.times w) (world_act p w m) (stays w 11))
    (stays w (plan_refusal p))
