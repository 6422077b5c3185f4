-- The master's events as records of numbers.
use Rattle.std.specs.Prelude.{ℕ, false, ◌&&◌, ◌||◌, ltb, eqb}
use Rattle.base_lists.specs.Bounded.{if_else}
use Rattle.machine_state.specs.Bytes.{flag_of}
use Rattle.machine_master.specs.declared.Answer.{Answer}
use Rattle.machine_master.specs.declared.Event.{Event}
use Rattle.machine_events.specs.declared.EventRecord.{EventRecord}

-- for a record or bytes that are "no event": one that each step refuses as 15, since its ReqId is above 127
abbrev pub no_event : Event
no_event = Event.Answer (record { reqid = 255; result = 0; length = 0; count = 0; permission = false; wake = false })

-- 0 tick, 2 a wake-up pulse, 3 own ask to wake, 5 own ask to send the sleep message
abbrev pub plain_event : ℕ → Event
plain_event kind =
    if_else (eqb kind 0) Event.Tick
    (if_else (eqb kind 2) Event.Pulse
    (if_else (eqb kind 3) Event.WakeAsk
    (if_else (eqb kind 5) Event.SleepAsk no_event)))

-- 4 own permission, 6 send result
abbrev pub flagged_event : ℕ → ℕ → Event
flagged_event kind flag =
    if_else (ltb flag 2)
    (if_else (eqb kind 4) (Event.Permission (flag_of flag))
    (if_else (eqb kind 6) (Event.SendResult (flag_of flag)) no_event))
    no_event

-- 1 an answer
abbrev pub answer_from : EventRecord → Answer
answer_from r =
    record { reqid = r.reqid; result = r.result; length = r.length; count = r.count; permission = flag_of r.permission; wake = flag_of r.wake }

abbrev pub answer_event : EventRecord → Event
answer_event r = if_else (ltb r.permission 2 && ltb r.wake 2) (Event.Answer (answer_from r)) no_event

-- an unknown kind, or a flag or bit of its kind above 1, is no event
abbrev pub event_of : EventRecord → Event
event_of r =
    if_else (eqb r.kind 1) (answer_event r)
    (if_else (eqb r.kind 4 || eqb r.kind 6) (flagged_event r.kind r.flag)
    (plain_event r.kind))
