-- The limits of a node's fields, by which 11 is judged.
use Rattle.std.specs.Prelude.{ℕ, ◌*◌, Bool, true, false, ◌&&◌, ◌||◌, not, leb, ltb, eqb, Option, Some, None}
use Rattle.base_lists.specs.Bounded.{if_else}
use Rattle.machine_state.specs.declared.State.{State}
use Rattle.machine_state.specs.Counts.{counts_below}
use Rattle.set_plan.specs.declared.Times.{Times}
use Rattle.set_plan.specs.Limits.{seq_counts}
use Rattle.machine_node.specs.declared.Node.{Node}

-- "sleep delay, none or below S"
abbrev pub delay_right : ℕ → Option ℕ → Bool
delay_right limit None = true
delay_right limit (Some ticks) = ltb ticks limit

-- "standby count, 0 to 2R for the caller, below P for another (outside Standby not caller, count 0)"
abbrev pub standby_right : Times → State → Bool → ℕ → Bool
standby_right t State.Normal caller ticks = not caller && eqb ticks 0
standby_right t State.Sleep caller ticks = not caller && eqb ticks 0
standby_right t State.Standby caller ticks = if_else caller (leb ticks (2 * t.recovery)) (ltb ticks t.space)

-- W-206: a machine that never sleeps is Normal, with no sleep delay
abbrev pub is_awake : State → Option ℕ → Bool
is_awake State.Normal None = true
is_awake State.Normal (Some ticks) = false
is_awake State.Standby delay = false
is_awake State.Sleep delay = false

-- "quiet count 0 to E"; "a sequence count 0 to 3 per ReqId"; and the others
unfoldable pub in_range : Bool → Times → Node → Bool
in_range sleeps t n = (sleeps || is_awake n.state n.delay) && leb n.quiet t.quiet && delay_right t.sleep n.delay && standby_right t n.state n.caller n.standby && counts_below seq_counts n.counts
