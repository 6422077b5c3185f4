-- The master's step.
use Rattle.set_plan.specs.declared.Row.{Row}
use Rattle.std.specs.Prelude.{ℕ, Bool, true, ◌&&◌, ◌==◌, nat_lt, Option, Some, None}
use Rattle.base_lists.specs.Bounded.{if_else}
use Rattle.set_plan.specs.declared.Times.{Times}
use Rattle.set_plan.specs.declared.Plan.{Plan}
use Rattle.set_plan.specs.Limits.{reqids, seq_counts}
use Rattle.set_plan.specs.Profile.{sleeps}
use Rattle.set_plan.specs.Rules.{plan_refusal}
use Rattle.set_plan.specs.Find.{find_row}
use Rattle.machine_master.specs.declared.Master.{Master}
use Rattle.machine_master.specs.declared.Event.{Event}
use Rattle.machine_master.specs.declared.Reply.{Reply}
use Rattle.machine_master.specs.Changes.{refuse}
use Rattle.machine_master.specs.Range.{in_range}
use Rattle.machine_master.specs.Ticks.{tick_step}
use Rattle.machine_master.specs.Waking.{wake_up_step, permission_step}
use Rattle.machine_master.specs.Sleeping.{sleep_ask_step, send_result_step}
use Rattle.machine_master.specs.Answers.{answer_step}

-- 15: "an event's count above 3 or ReqId above 127"
abbrev pub event_right : Event → Bool
event_right Event.Tick = true
event_right (Event.Answer a) = nat_lt a.reqid reqids && nat_lt a.count seq_counts
event_right Event.Pulse = true
event_right Event.WakeAsk = true
event_right (Event.Permission permitted) = true
event_right Event.SleepAsk = true
event_right (Event.SendResult sent) = true

-- the ReqId whose row an event asks a plan for
abbrev pub reqid_asked : Event → Option ℕ
reqid_asked Event.Tick = None
reqid_asked (Event.Answer a) = Some a.reqid
reqid_asked Event.Pulse = None
reqid_asked Event.WakeAsk = None
reqid_asked (Event.Permission permitted) = None
reqid_asked Event.SleepAsk = None
reqid_asked (Event.SendResult sent) = None

-- that row
abbrev pub row_asked : Plan → Event → Option Row
row_asked p Event.Tick = None
row_asked p (Event.Answer a) = find_row p a.reqid
row_asked p Event.Pulse = None
row_asked p Event.WakeAsk = None
row_asked p (Event.Permission permitted) = None
row_asked p Event.SleepAsk = None
row_asked p (Event.SendResult sent) = None

-- what each event does, 16 and the later numbers included, by what it needs of a plan: whether its machines sleep, the number of nodes, the times
-- and the row asked for
abbrev pub act_with : Bool → ℕ → Times → Option Row → Master → Event → Reply
act_with sleeps nodecount t row m Event.Tick = tick_step t m
act_with sleeps nodecount t row m (Event.Answer a) = answer_step row a m
act_with sleeps nodecount t row m Event.Pulse = wake_up_step m
act_with sleeps nodecount t row m Event.WakeAsk = wake_up_step m
act_with sleeps nodecount t row m (Event.Permission permitted) = permission_step permitted m
act_with sleeps nodecount t row m Event.SleepAsk = sleep_ask_step sleeps nodecount m
act_with sleeps nodecount t row m (Event.SendResult sent) = send_result_step sent m

-- "then 11, 15, 16, then the rest by number": from 15 on, where plan and state are judged
abbrev pub step_in_range : Bool → ℕ → Times → Option Row → Master → Event → Reply
step_in_range sleeps nodecount t row m e = if_else (event_right e) (act_with sleeps nodecount t row m e) (refuse m 15)

-- from 11 on, where the plan is judged
abbrev pub step_with : Bool → ℕ → Times → Option Row → Master → Event → Reply
step_with sleeps nodecount t row m e = if_else (in_range sleeps nodecount t m) (step_in_range sleeps nodecount t row m e) (refuse m 11)

-- the same under a plan
abbrev pub act : Plan → Master → Event → Reply
act p m e = act_with (sleeps p) p.nodecount p.times (row_asked p e) m e

abbrev pub step_under : Plan → Master → Event → Reply
step_under p m e = step_with (sleeps p) p.nodecount p.times (row_asked p e) m e

-- "plan 4 to 8 first", and 3 "before 4", where the plan's number is known
abbrev pub judged_step : ℕ → Plan → Master → Event → Reply
judged_step refusal p m e = if_else (refusal == 0) (step_under p m e) (refuse m refusal)

abbrev pub master_step : Plan → Master → Event → Reply
master_step p m e = judged_step (plan_refusal p) p m e
