-- A node's events as bytes: the kind, then what the event has.
use Rattle.std.specs.Prelude.{ℕ, List, length, ltb, eqb}
use Rattle.base_lists.specs.Bounded.{if_else}
use Rattle.base_bytes.specs.Bytes.{byte}
use Rattle.machine_state.specs.Bytes.{flag_of}
use Rattle.machine_node.specs.declared.Event.{Event}

-- for "bytes that are no event": one that each step refuses as 15, since its ReqId is above 127
abbrev pub no_event : Event
no_event = Event.Request 255

-- 1 a pulse heard, 2 own ask to wake, 4 sleep message
abbrev pub plain_event : ℕ → Event
plain_event kind =
    if_else (eqb kind 1) Event.Pulse
    (if_else (eqb kind 2) Event.WakeAsk
    (if_else (eqb kind 4) Event.SleepMessage no_event))

-- 0 tick, with clock or without; 3 permission
abbrev pub flagged_event : ℕ → ℕ → Event
flagged_event kind flag =
    if_else (ltb flag 2)
    (if_else (eqb kind 0) (Event.Tick (flag_of flag))
    (if_else (eqb kind 3) (Event.Permission (flag_of flag)) no_event))
    no_event

-- 5 request, 6 own ask to send, of a ReqId; else one with a flag
abbrev pub event_with : ℕ → ℕ → Event
event_with kind value =
    if_else (eqb kind 5) (Event.Request value)
    (if_else (eqb kind 6) (Event.SendAsk value)
    (flagged_event kind value))

abbrev pub event_of : List ℕ → Event
event_of s =
    if_else (eqb (length s) 1) (plain_event (byte s 0))
    (if_else (eqb (length s) 2) (event_with (byte s 0) (byte s 1)) no_event)
