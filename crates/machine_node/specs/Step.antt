-- A node's step.
use Rattle.set_plan.specs.declared.Row.{Row}
use Rattle.std.specs.Prelude.{ℕ, Bool, true, ltb, eqb, Option, Some, None}
use Rattle.base_lists.specs.Bounded.{if_else}
use Rattle.set_plan.specs.declared.Times.{Times}
use Rattle.set_plan.specs.declared.Plan.{Plan}
use Rattle.set_plan.specs.Limits.{reqids}
use Rattle.set_plan.specs.Profile.{sleeps}
use Rattle.set_plan.specs.Rules.{plan_refusal}
use Rattle.set_plan.specs.Answering.{is_polled}
use Rattle.set_plan.specs.Find.{find_row}
use Rattle.machine_node.specs.declared.Node.{Node}
use Rattle.machine_node.specs.declared.Event.{Event}
use Rattle.machine_node.specs.declared.Reply.{Reply}
use Rattle.machine_node.specs.Changes.{refuse}
use Rattle.machine_node.specs.Range.{in_range}
use Rattle.machine_node.specs.Ticks.{tick_step}
use Rattle.machine_node.specs.Waking.{pulse_step, wake_ask_step, permission_step}
use Rattle.machine_node.specs.Sending.{sleep_message_step, request_step, send_ask_step}

-- 15: "an event's .. ReqId above 127"
abbrev pub event_right : Event → Bool
event_right (Event.Tick clock) = true
event_right Event.Pulse = true
event_right Event.WakeAsk = true
event_right (Event.Permission permitted) = true
event_right Event.SleepMessage = true
event_right (Event.Request reqid) = ltb reqid reqids
event_right (Event.SendAsk reqid) = ltb reqid reqids

-- the ReqId whose row an event asks a plan for
abbrev pub reqid_asked : Event → Option ℕ
reqid_asked (Event.Tick clock) = None
reqid_asked Event.Pulse = None
reqid_asked Event.WakeAsk = None
reqid_asked (Event.Permission permitted) = None
reqid_asked Event.SleepMessage = None
reqid_asked (Event.Request reqid) = Some reqid
reqid_asked (Event.SendAsk reqid) = Some reqid

-- that row
abbrev pub row_asked : Plan → Event → Option Row
row_asked p (Event.Tick clock) = None
row_asked p Event.Pulse = None
row_asked p Event.WakeAsk = None
row_asked p (Event.Permission permitted) = None
row_asked p Event.SleepMessage = None
row_asked p (Event.Request reqid) = find_row p reqid
row_asked p (Event.SendAsk reqid) = find_row p reqid

-- what each event does, 16 and the later numbers included, by what it needs of a plan: whether its machines sleep, the times, whether the
-- node is polled and the row asked for
abbrev pub act_with : Bool → Times → ℕ → Bool → Option Row → Node → Event → Reply
act_with sleeps t me polled row n (Event.Tick clock) = tick_step sleeps t clock n
act_with sleeps t me polled row n Event.Pulse = pulse_step n
act_with sleeps t me polled row n Event.WakeAsk = wake_ask_step sleeps n
act_with sleeps t me polled row n (Event.Permission permitted) = permission_step sleeps permitted n
act_with sleeps t me polled row n Event.SleepMessage = sleep_message_step sleeps n
act_with sleeps t me polled row n (Event.Request reqid) = request_step me row n
act_with sleeps t me polled row n (Event.SendAsk reqid) = send_ask_step me polled row n

-- "then 11, 15, 16, then the rest by number", where the plan is judged; 11 is a "state record or node number out of range"
abbrev pub step_with : Bool → ℕ → Times → ℕ → Bool → Option Row → Node → Event → Reply
step_with sleeps nodecount t me polled row n e =
    if_else (ltb me nodecount)
    (if_else (in_range sleeps t n)
    (if_else (event_right e) (act_with sleeps t me polled row n e) (refuse n 15))
    (refuse n 11))
    (refuse n 11)

-- the same under a plan
abbrev pub act : Plan → ℕ → Node → Event → Reply
act p me n e = act_with (sleeps p) p.times me (is_polled p me) (row_asked p e) n e

abbrev pub step_under : Plan → ℕ → Node → Event → Reply
step_under p me n e = step_with (sleeps p) p.nodecount p.times me (is_polled p me) (row_asked p e) n e

-- "plan 4 to 8 first", and 3 "before 4"
abbrev pub node_step : Plan → ℕ → Node → Event → Reply
node_step p me n e = if_else (eqb (plan_refusal p) 0) (step_under p me n e) (refuse n (plan_refusal p))
