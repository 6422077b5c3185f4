-- W-205: "the reason is what the history from power-on shows", told by what passed in the moves. A past has its latest move first.
use Rattle.std.specs.Prelude.{ℕ, ◌≡◌, Bool, false, not, ◌&&◌, ◌||◌, List, leb, ltb, Option, Some, None}
use Rattle.base_lists.specs.Bounded.{if_else, first_to}
use Rattle.set_plan.specs.declared.Plan.{Plan}
use Rattle.set_plan.specs.declared.Row.{Row}
use Rattle.machine_master.specs.declared.Answer.{Answer}
use Rattle.set_plan.specs.Profile.{sleeps}
use Rattle.machine_master.specs.Answers.{is_whole}
use Rattle.machine_reason.specs.declared.Cause.{Cause}
use Rattle.machine_reason.specs.declared.Explained.{Explained}
use Rattle.machine_reason.specs.declared.Reason.{Reason}
use Rattle.machine_reason.specs.Reasons.{explained_by, refused, explain}
use Rattle.bus.specs.declared.Move.{Move}
use Rattle.bus.specs.declared.Passed.{Passed}
use Rattle.bus_history.specs.Run.{run}
use Rattle.bus_history.specs.Terms.{none, some, since, master_permitted, is_answer_of, is_wake_up, is_sending, is_stop, ticks_in, has_result, is_sent, is_call_back, clock_left, since_on, last_answer, within}

-- "sleep under way: no call-back, and no result yet, or the result was 'sent' and no stop since", of the moves since the last sending
abbrev pub under_way : List Passed → Bool
under_way past =
    some is_sending past && none is_call_back (since is_sending past)
    && (none has_result (since is_sending past) || some is_sent (since is_sending past) && none is_stop (since is_sending past))

-- "owed: a call-back and no result yet"
abbrev pub owed : List Passed → Bool
owed past = some is_sending past && some is_call_back (since is_sending past) && none has_result (since is_sending past)

-- by a node's last answer and what came after it: its permission is held
abbrev pub held_by : ℕ → Option (Row × Answer) → List Passed → Bool
held_by window None after = false
held_by window (Some (row, a)) after = is_whole row a && not a.wake && a.permission && (none is_wake_up after && leb (ticks_in after) window)

-- and why it is not: "damaged; with the wake bit, whatever its permission bit (wake); without permission (refused); with permission, and
-- within the window a wake-up reached the master (wake), or the window ran out first (aged)"
abbrev pub cause_by : ℕ → Option (Row × Answer) → List Passed → Cause
cause_by window None after = Cause.New
cause_by window (Some (row, a)) after =
    if_else (is_whole row a)
    (if_else a.wake Cause.Woken
    (if_else a.permission (if_else (none is_wake_up (within window after)) Cause.Aged Cause.Woken) Cause.Refused))
    Cause.Damaged

-- "since the tick that last switched the clock on"
abbrev pub held_since : Plan → ℕ → List Passed → Bool
held_since p i past = held_by p.times.window (last_answer i (since_on past)) (since (is_answer_of i) (since_on past))

abbrev pub cause_since : Plan → ℕ → List Passed → Cause
cause_since p i past = cause_by p.times.window (last_answer i (since_on past)) (since (is_answer_of i) (since_on past))

-- "the lowest node not held"
abbrev pub first_missing : Plan → List Passed → ℕ
first_missing p past = first_to (λ i. not (held_since p i past)) p.nodecount

abbrev pub node_shown : Plan → List Passed → Reason
node_shown p past = if_else (ltb (first_missing p past) p.nodecount) (Reason.Node (first_missing p past) (cause_since p (first_missing p past) past)) Reason.Nothing

abbrev pub reason_shown : Plan → List Passed → Reason
reason_shown p past =
    if_else (under_way past) Reason.UnderWay
    (if_else (owed past) Reason.Owed
    (if_else (master_permitted past) (node_shown p past) Reason.Own))

-- "refused 16 exactly when there was no tick yet or the last one left the clock off"; W-206: "the profile itself as the reason, before all others"
abbrev pub shown : Plan → List Passed → Explained
shown p past = if_else (sleeps p) (if_else (clock_left past) (explained_by (reason_shown p past)) (refused 16)) (explained_by Reason.Profile)

-- what is told of the master after a list of moves is what the list shows
abbrev pub ReasonShown : Plan → List Move → Type 0
ReasonShown p moves = explain p (run p moves).world.master ≡ shown p (run p moves).past
