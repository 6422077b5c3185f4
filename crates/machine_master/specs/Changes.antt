-- The master's power-on, single changes, causes, calling back, and replies.
use Rattle.std.specs.Prelude.{ℕ, Bool, true, false, List, replicate, slice_index_or, slice_set}
use Rattle.base_lists.specs.Bounded.{if_else, tab}
use Rattle.machine_state.specs.declared.State.{State}
use Rattle.machine_state.specs.State.{start_state}
use Rattle.set_plan.specs.Limits.{max_nodes, reqids}
use Rattle.machine_master.specs.declared.Phase.{Phase}
use Rattle.machine_master.specs.declared.Hold.{Hold}
use Rattle.machine_master.specs.declared.Command.{Command}
use Rattle.machine_master.specs.declared.Master.{Master}
use Rattle.machine_master.specs.declared.Reply.{Reply}

abbrev pub no_hold : Hold
no_hold = record { held = false; age = 0 }

abbrev pub no_holds : List Hold
no_holds = replicate max_nodes no_hold

-- W-205, why a node's permission is not held: "never answered since Normal, refused, aged out, damaged, or dropped by a wake-up";
-- "stored as 0 for never answered, a held node, outside Normal and from N on"
abbrev pub cause_new : ℕ
cause_new = 0

abbrev pub cause_refused : ℕ
cause_refused = 1

abbrev pub cause_aged : ℕ
cause_aged = 2

abbrev pub cause_damaged : ℕ
cause_damaged = 3

abbrev pub cause_wake : ℕ
cause_wake = 4

abbrev pub no_causes : List ℕ
no_causes = replicate max_nodes cause_new

-- "4 for none": `Master::NO_COUNT`
abbrev pub no_count : ℕ
no_count = 4

-- "per ReqId a table of 128 places, last count 0 to 3 or 4 for none"
abbrev pub no_counts : List ℕ
no_counts = replicate reqids no_count

-- "Power-on: Sleep, nothing held, own permission no, counts 4, numbers 0", or Normal where machines never sleep (W-206)
abbrev pub power_on : Bool → Master
power_on sleeps =
    record { state = start_state sleeps; phase = Phase.Open; permission = false; holds = no_holds; causes = no_causes; counts = no_counts; delay = 0; ticks = 0 }

-- another state; "Each change of state or phase sets the delay to 0"
abbrev pub in_state : State → Master → Master
in_state state m =
    record { state = state; phase = m.phase; permission = m.permission; holds = m.holds; causes = m.causes; counts = m.counts; delay = 0; ticks = m.ticks }

abbrev pub in_phase : Phase → Master → Master
in_phase phase m =
    record { state = m.state; phase = phase; permission = m.permission; holds = m.holds; causes = m.causes; counts = m.counts; delay = 0; ticks = m.ticks }

abbrev pub with_permission : Bool → Master → Master
with_permission permitted m =
    record { state = m.state; phase = m.phase; permission = permitted; holds = m.holds; causes = m.causes; counts = m.counts; delay = m.delay; ticks = m.ticks }

abbrev pub with_holds : List Hold → Master → Master
with_holds holds m =
    record { state = m.state; phase = m.phase; permission = m.permission; holds = holds; causes = m.causes; counts = m.counts; delay = m.delay; ticks = m.ticks }

abbrev pub with_causes : List ℕ → Master → Master
with_causes causes m =
    record { state = m.state; phase = m.phase; permission = m.permission; holds = m.holds; causes = causes; counts = m.counts; delay = m.delay; ticks = m.ticks }

abbrev pub with_counts : List ℕ → Master → Master
with_counts counts m =
    record { state = m.state; phase = m.phase; permission = m.permission; holds = m.holds; causes = m.causes; counts = counts; delay = m.delay; ticks = m.ticks }

abbrev pub with_delay : ℕ → Master → Master
with_delay delay m =
    record { state = m.state; phase = m.phase; permission = m.permission; holds = m.holds; causes = m.causes; counts = m.counts; delay = delay; ticks = m.ticks }

-- "let .. go"
abbrev pub let_go : ℕ → Master → Master
let_go node m = with_holds (slice_set m.holds node no_hold) m

abbrev pub let_all_go : Master → Master
let_all_go m = with_holds no_holds m

-- "held with age 0"
abbrev pub hold : ℕ → Master → Master
hold node m = with_holds (slice_set m.holds node (record { held = true; age = 0 })) m

-- "the master remembers per node the last of these"
abbrev pub with_cause : ℕ → ℕ → Master → Master
with_cause cause node m = with_causes (slice_set m.causes node cause) m

-- "A wake-up is the cause for nodes it let go", and for no other
abbrev pub woken : Hold → ℕ → ℕ
woken h cause = if_else h.held cause_wake cause

abbrev pub woken_at : List Hold → List ℕ → ℕ → ℕ
woken_at holds causes k = woken (slice_index_or holds k no_hold) (slice_index_or causes k cause_new)

unfoldable pub all_woken : List Hold → List ℕ → List ℕ
all_woken holds causes = tab max_nodes (woken_at holds causes)

-- a wake-up lets all go
abbrev pub drop_all : Master → Master
drop_all m = let_all_go (with_causes (all_woken m.holds m.causes) m)

-- "Call back means: Sending becomes Withdrawn, Closing becomes Open"
abbrev pub call_back_by : Phase → Master → Master
call_back_by Phase.Open m = m
call_back_by Phase.Sending m = in_phase Phase.Withdrawn m
call_back_by Phase.Withdrawn m = m
call_back_by Phase.Closing m = in_phase Phase.Open m

abbrev pub call_back : Master → Master
call_back m = call_back_by m.phase m

abbrev pub commands : Command → Master → Reply
commands command m = record { master = m; command = command; refusal = 0; node = 0; lost = 0 }

abbrev pub silent : Master → Reply
silent m = commands Command.Nothing m

-- "A refused step returns the state as given and no command, lost 0"
abbrev pub refuse : Master → ℕ → Reply
refuse m number = record { master = m; command = Command.Nothing; refusal = number; node = 0; lost = 0 }
