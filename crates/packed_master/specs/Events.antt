-- The master's events as bytes: the kind, then what the event has.
use Rattle.std.specs.Prelude.{ℕ, List, ◌&&◌, length, eqb}
use Rattle.base_lists.specs.Bounded.{if_else}
use Rattle.base_bytes.specs.Bytes.{byte, number}
use Rattle.machine_master.specs.declared.Event.{Event}
use Rattle.machine_events.specs.declared.EventRecord.{EventRecord}
use Rattle.machine_events.specs.Events.{no_event, plain_event, flagged_event, answer_event}

-- 1 an answer: ReqId, 2-3 result, 4-5 length, 6 count, 7 permission bit, 8 wake bit
abbrev pub answer_from : List ℕ → EventRecord
answer_from s =
    record { kind = byte s 0; reqid = byte s 1; result = number s 2; length = number s 4; count = byte s 6; permission = byte s 7; wake = byte s 8; flag = 0 }

abbrev pub event_of : List ℕ → Event
event_of s =
    if_else (eqb (length s) 1) (plain_event (byte s 0))
    (if_else (eqb (length s) 2) (flagged_event (byte s 0) (byte s 1))
    (if_else (eqb (length s) 9 && eqb (byte s 0) 1) (answer_event (answer_from s)) no_event))
