-- A node's waking and its permission.
use Rattle.std.specs.Prelude.{Bool, true, false, ◌&&◌, None}
use Rattle.base_lists.specs.Bounded.{if_else}
use Rattle.machine_state.specs.declared.State.{State}
use Rattle.machine_node.specs.declared.Node.{Node}
use Rattle.machine_node.specs.declared.Reply.{Reply}
use Rattle.machine_node.specs.Changes.{to_sleep, to_standby, with_permission, with_wake, with_quiet, with_delay, silent, calls}

-- "Pulse heard: Sleep goes Standby, not caller; else nothing"
abbrev pub pulse_by : State → Node → Reply
pulse_by State.Sleep n = silent (to_standby n false)
pulse_by State.Standby n = silent n
pulse_by State.Normal n = silent n

abbrev pub pulse_step : Node → Reply
pulse_step n = pulse_by n.state n

-- W-204: from Normal "to Standby as the caller, count and quiet count 0, error and sleep delay off, with a pulse"
abbrev pub call_anew : Node → Reply
call_anew n = calls (to_standby (with_delay None (with_quiet 0 false n)) true)

-- "Sleep, or Standby not caller: now Standby as caller, count 0, command a pulse. Else nothing more", but by W-204 "in Normal while the error shows", which
-- "does not apply" where machines never sleep (W-206)
abbrev pub wake_ask_by : Bool → State → Bool → Node → Reply
wake_ask_by sleeps State.Sleep caller n = calls (to_standby n true)
wake_ask_by sleeps State.Standby true n = silent n
wake_ask_by sleeps State.Standby false n = calls (to_standby n true)
wake_ask_by sleeps State.Normal caller n = if_else (sleeps && n.error) (call_anew n) (silent n)

-- "Own ask to wake: wake bit 1"
abbrev pub wake_ask_step : Bool → Node → Reply
wake_ask_step sleeps n = wake_ask_by sleeps n.state n.caller (with_wake n)

-- "Permission: set; a yes while the error shows goes Sleep"; W-206: "its permission is only set"
abbrev pub permission_step : Bool → Bool → Node → Reply
permission_step sleeps permitted n =
    if_else permitted (if_else (sleeps && n.error) (silent (to_sleep (with_permission permitted n))) (silent (with_permission permitted n))) (silent (with_permission permitted n))
