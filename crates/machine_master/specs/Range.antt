-- The limits of the master's fields, by which 11 is judged.
use Rattle.std.specs.Prelude.{ℕ, ◌+◌, Bool, true, false, not, ◌&&◌, ◌||◌, List, get_or, ◌==◌, nat_le, nat_lt, slice_index_or}
use Rattle.base_lists.specs.Bounded.{if_else, all_to}
use Rattle.machine_state.specs.declared.State.{State}
use Rattle.machine_state.specs.State.{is_normal}
use Rattle.machine_state.specs.Counts.{counts_below}
use Rattle.set_plan.specs.declared.Times.{Times}
use Rattle.set_plan.specs.Limits.{max_nodes}
use Rattle.machine_master.specs.declared.Phase.{Phase}
use Rattle.machine_master.specs.declared.Hold.{Hold}
use Rattle.machine_master.specs.declared.Master.{Master}
use Rattle.machine_master.specs.Changes.{no_hold, cause_new, cause_wake, no_count}

abbrev pub is_open : Phase → Bool
is_open Phase.Open = true
is_open Phase.Sending = false
is_open Phase.Withdrawn = false
is_open Phase.Closing = false

-- "phase .. (0 outside Normal)"
abbrev pub phase_right : State → Phase → Bool
phase_right State.Normal phase = true
phase_right State.Standby phase = is_open phase
phase_right State.Sleep phase = is_open phase

-- W-206: a machine that never sleeps is Normal, its phase Open
abbrev pub is_awake : State → Phase → Bool
is_awake State.Normal phase = is_open phase
is_awake State.Standby phase = false
is_awake State.Sleep phase = false

-- "a delay below C in Standby, below D in Closing, else 0"
abbrev pub delay_right : Times → State → Phase → ℕ → Bool
delay_right t State.Normal Phase.Open delay = delay == 0
delay_right t State.Normal Phase.Sending delay = delay == 0
delay_right t State.Normal Phase.Withdrawn delay = delay == 0
delay_right t State.Normal Phase.Closing delay = nat_lt delay t.stop
delay_right t State.Standby phase delay = nat_lt delay t.start
delay_right t State.Sleep phase delay = delay == 0

-- "age 0 to W"; "Ages of nodes not held, and places from N on, are 0"
abbrev pub hold_right : ℕ → ℕ → ℕ → Hold → Bool
hold_right nodecount window node h = if_else h.held (nat_lt node nodecount && nat_le h.age window) (h.age == 0)

abbrev pub hold_right_at : ℕ → ℕ → List Hold → ℕ → Bool
hold_right_at nodecount window holds node = hold_right nodecount window node (slice_index_or holds node no_hold)

unfoldable pub holds_right : ℕ → ℕ → List Hold → Bool
holds_right nodecount window holds = all_to (hold_right_at nodecount window holds) max_nodes

-- at most 4; "0 for never answered, a held node, outside Normal and from N on"
abbrev pub cause_right : Bool → ℕ → ℕ → Bool → ℕ → Bool
cause_right normal nodecount node held cause =
    if_else (normal && nat_lt node nodecount && not held) (nat_le cause cause_wake) (cause == cause_new)

abbrev pub cause_right_at : Bool → ℕ → List Hold → List ℕ → ℕ → Bool
cause_right_at normal nodecount holds causes node =
    cause_right normal nodecount node (get_or holds node no_hold).held (slice_index_or causes node cause_new)

unfoldable pub causes_right : Bool → ℕ → List Hold → List ℕ → Bool
causes_right normal nodecount holds causes = all_to (cause_right_at normal nodecount holds causes) max_nodes

-- "per ReqId a table of 128 places, last count 0 to 3 or 4 for none", and the others; any tick number of 32 bits
unfoldable pub in_range : Bool → ℕ → Times → Master → Bool
in_range sleeps nodecount t m =
    (sleeps || is_awake m.state m.phase) && phase_right m.state m.phase && delay_right t m.state m.phase m.delay && counts_below (no_count + 1) m.counts
    && (holds_right nodecount t.window m.holds && causes_right (is_normal m.state) nodecount m.holds m.causes)
