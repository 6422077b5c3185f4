-- A node's ticks.
use Rattle.std.specs.Prelude.{ℕ, ◌+◌, ◌*◌, Bool, true, false, ◌&&◌, ltb, eqb, Option, Some, None}
use Rattle.base_lists.specs.Bounded.{if_else}
use Rattle.machine_state.specs.declared.State.{State}
use Rattle.set_plan.specs.declared.Times.{Times}
use Rattle.machine_node.specs.declared.Node.{Node}
use Rattle.machine_node.specs.declared.Reply.{Reply}
use Rattle.machine_node.specs.Changes.{to_sleep, to_normal, to_standby, with_quiet, with_delay, with_standby, silent, calls}

-- Normal without clock: "quiet up by one, not above E; at E error on, and Sleep if permitted"; W-206: "set the network error at E without sleeping"
abbrev pub quiet_tick : Bool → ℕ → Node → Reply
quiet_tick sleeps limit n =
    if_else (ltb (n.quiet + 1) limit) (silent (with_quiet (n.quiet + 1) n.error n))
    (if_else (sleeps && n.permission) (silent (to_sleep n)) (silent (with_quiet limit true n)))

-- Normal with clock: "error off, quiet 0"
abbrev pub awake_tick : Bool → ℕ → Bool → Node → Reply
awake_tick sleeps limit true n = silent (with_quiet 0 false n)
awake_tick sleeps limit false n = quiet_tick sleeps limit n

-- Normal: "a running delay reaching S goes Sleep; otherwise .."; "a sleep delay still runs" with clock, and "With clock too, a delay reaching S goes Sleep in that tick"
abbrev pub normal_by : Bool → Times → Bool → Option ℕ → Node → Reply
normal_by sleeps t clock None n = awake_tick sleeps t.quiet clock n
normal_by sleeps t clock (Some ticks) n =
    if_else (ltb (ticks + 1) t.sleep) (awake_tick sleeps t.quiet clock (with_delay (Some (ticks + 1)) n)) (silent (to_sleep n))

abbrev pub normal_tick : Bool → Times → Bool → Node → Reply
normal_tick sleeps t clock n = normal_by sleeps t clock n.delay n

-- Standby without clock: "the caller, not above 2R, sends a second pulse at R (8.31), at 2R sets error and sleeps if permitted"
abbrev pub caller_tick : ℕ → Node → Reply
caller_tick recovery n =
    if_else (ltb (n.standby + 1) (2 * recovery))
    (if_else (eqb (n.standby + 1) recovery) (calls (with_standby (n.standby + 1) n.error n)) (silent (with_standby (n.standby + 1) n.error n)))
    (if_else n.permission (silent (to_sleep n)) (silent (with_standby (2 * recovery) true n)))

-- Standby without clock: "a non-caller sleeps at P (8.30)"
abbrev pub listener_tick : ℕ → Node → Reply
listener_tick space n = if_else (ltb (n.standby + 1) space) (silent (with_standby (n.standby + 1) n.error n)) (silent (to_sleep n))

abbrev pub standby_tick : Times → Node → Reply
standby_tick t n = if_else n.caller (caller_tick t.recovery n) (listener_tick t.space n)

-- with clock "Standby: Normal. Sleep: Standby, not caller"; without "Sleep: nothing"
abbrev pub tick_by : Bool → Times → Bool → State → Node → Reply
tick_by sleeps t clock State.Normal n = normal_tick sleeps t clock n
tick_by sleeps t clock State.Standby n = if_else clock (silent (to_normal n)) (standby_tick t n)
tick_by sleeps t clock State.Sleep n = if_else clock (silent (to_standby n false)) (silent n)

abbrev pub tick_step : Bool → Times → Bool → Node → Reply
tick_step sleeps t clock n = tick_by sleeps t clock n.state n
