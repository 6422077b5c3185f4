-- W-201: "lend a list of event records and get the answers in a second list, one for each".
use Rattle.std.specs.Prelude.{ℕ, Bool, List, [], ◌∷◌, length, ltb, Result, Ok, Err}
use Rattle.base_lists.specs.Bounded.{if_else}
use Rattle.base_refusals.specs.declared.Refusal.{Refusal}
use Rattle.base_refusals.specs.Numbers.{number}
use Rattle.set_plan.specs.declared.Plan.{Plan}
use Rattle.machine_master.specs.declared.Master.{Master}
use Rattle.machine_master.specs.declared.Reply.{Reply}
use Rattle.machine_master.specs.Step.{judged_step, master_step}
use Rattle.machine_events.specs.declared.EventRecord.{EventRecord}
use Rattle.machine_events.specs.declared.ReplyRecord.{ReplyRecord}
use Rattle.machine_events.specs.Events.{event_of}
use Rattle.machine_events.specs.Replies.{reply_record}
use Rattle.machine_batch.specs.declared.Stepped.{Stepped}

abbrev given : Reply → Stepped
given r = record { master = r.master; reply = reply_record r }

-- a step by an event record, where the plan's number is known
unfoldable pub stepped_by : ℕ → Plan → Master → EventRecord → Stepped
stepped_by refusal p m e = given (judged_step refusal p m (event_of e))

-- "calling event by event": the master's step
unfoldable pub stepped : Plan → Master → EventRecord → Stepped
stepped p m e = given (master_step p m (event_of e))

-- "in that order, a refused event included: those after it still run": the master after the last
unfoldable pub master_after : Plan → Master → List EventRecord → Master
master_after p m [] = m
master_after p m (e ∷ es) = master_after p (stepped p m e).master es

-- "one for each"; "places of a longer one past the last event keep their content"
unfoldable pub replies_to : Plan → Master → List EventRecord → List ReplyRecord → List ReplyRecord
replies_to p m [] rs = rs
replies_to p m (e ∷ es) [] = []
replies_to p m (e ∷ es) (r ∷ rs) = (stepped p m e).reply ∷ replies_to p (stepped p m e).master es rs

-- 22, "answer list too short, before all others"
abbrev pub too_short : List EventRecord → List ReplyRecord → Bool
too_short es rs = ltb (length rs) (length es)

-- what a list gives: 22 or 0, and the master after the last event
pub record Batch : Type 0 where
  pub refusal : ℕ
  pub master : Master

-- the value that a call on a master returns, so told
abbrev pub batch_told : Master → Result Master Refusal → Batch
batch_told m (Ok after) = record { refusal = 0; master = after }
batch_told m (Err refusal) = record { refusal = number refusal; master = m }

-- "If the answer list is shorter than the event list nothing is done"
abbrev pub batch_of : Plan → Master → List EventRecord → List ReplyRecord → Batch
batch_of p m es rs = if_else (too_short es rs) (record { refusal = 22; master = m }) (record { refusal = 0; master = master_after p m es })

abbrev pub batch_replies : Plan → Master → List EventRecord → List ReplyRecord → List ReplyRecord
batch_replies p m es rs = if_else (too_short es rs) rs (replies_to p m es rs)
