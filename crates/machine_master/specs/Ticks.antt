-- The master's ticks.
use Rattle.std.specs.Prelude.{ℕ, ◌+◌, ◌%◌, ◌^◌, Bool, true, false, ◌&&◌, List, nat_le, nat_lt, slice_index_or}
use Rattle.base_lists.specs.Bounded.{if_else, tab}
use Rattle.machine_state.specs.declared.State.{State}
use Rattle.machine_state.specs.State.{is_normal}
use Rattle.set_plan.specs.declared.Times.{Times}
use Rattle.set_plan.specs.Limits.{max_nodes}
use Rattle.machine_master.specs.declared.Phase.{Phase}
use Rattle.machine_master.specs.declared.Hold.{Hold}
use Rattle.machine_master.specs.declared.Command.{Command}
use Rattle.machine_master.specs.declared.Master.{Master}
use Rattle.machine_master.specs.declared.Reply.{Reply}
use Rattle.machine_master.specs.Changes.{no_hold, cause_new, cause_aged, no_causes, no_counts, in_state, in_phase, with_causes, with_counts, with_delay, let_all_go, silent, commands}

-- "held ages up by one, and one above W is let go"
abbrev pub older : ℕ → Hold → Hold
older window h = if_else h.held (if_else (nat_lt h.age window) (record { held = true; age = h.age + 1 }) no_hold) h

abbrev pub older_at : ℕ → List Hold → ℕ → Hold
older_at window holds k = older window (slice_index_or holds k no_hold)

unfoldable pub all_older : ℕ → List Hold → List Hold
all_older window holds = tab max_nodes (older_at window holds)

-- one let go so in Normal is "aged out"
abbrev pub aged_out : Bool → ℕ → Hold → ℕ → ℕ
aged_out normal window h cause = if_else (normal && h.held && nat_le window h.age) cause_aged cause

abbrev pub aged_out_at : Bool → ℕ → List Hold → List ℕ → ℕ → ℕ
aged_out_at normal window holds causes k = aged_out normal window (slice_index_or holds k no_hold) (slice_index_or causes k cause_new)

unfoldable pub all_aged_out : Bool → ℕ → List Hold → List ℕ → List ℕ
all_aged_out normal window holds causes = tab max_nodes (aged_out_at normal window holds causes)

-- "Tick, any state: tick number up by one", which "returns to 0 after 4,294,967,295"
abbrev pub aged : ℕ → Master → Master
aged window m =
    record {
      state = m.state;
      phase = m.phase;
      permission = m.permission;
      holds = all_older window m.holds;
      causes = all_aged_out (is_normal m.state) window m.holds m.causes;
      counts = m.counts;
      delay = m.delay;
      ticks = (m.ticks + 1) % 2 ^ 32;
    }

-- "go Normal, counts all 4", with no causes
abbrev pub to_normal : Master → Master
to_normal m = in_phase Phase.Open (in_state State.Normal (with_counts no_counts (with_causes no_causes m)))

-- "go Sleep, phase 0, let all go", with no causes
abbrev pub to_sleep : Master → Master
to_sleep m = in_phase Phase.Open (in_state State.Sleep (let_all_go (with_causes no_causes m)))

-- "command clock on, go Normal", and "command clock off, go Sleep"
abbrev pub switch_clock : Bool → Master → Reply
switch_clock true m = commands Command.ClockOn (to_normal m)
switch_clock false m = commands Command.ClockOff (to_sleep m)

-- a tick of a delay, and the last one
abbrev pub delay_tick : ℕ → Bool → Master → Reply
delay_tick last on m = if_else (nat_lt (m.delay + 1) last) (silent (with_delay (m.delay + 1) m)) (switch_clock on m)

-- "Standby: at the C-th tick"; "Closing: at the D-th"
abbrev pub tick_by : Times → State → Phase → Master → Reply
tick_by t State.Sleep phase m = silent m
tick_by t State.Standby phase m = delay_tick t.start true m
tick_by t State.Normal Phase.Open m = silent m
tick_by t State.Normal Phase.Sending m = silent m
tick_by t State.Normal Phase.Withdrawn m = silent m
tick_by t State.Normal Phase.Closing m = delay_tick t.stop false m

abbrev pub tick_step : Times → Master → Reply
tick_step t m = tick_by t m.state m.phase (aged t.window m)
