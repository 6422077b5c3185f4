-- What the calls on the master return and leave.
use Rattle.std.specs.Prelude.{ℕ, Bool, true, ◌||◌, List, length, ltb, eqb}
use Rattle.std.proofs.lemmas.List.Edits.{sets}
use Rattle.base_lists.specs.Bounded.{if_else}
use Rattle.set_plan.specs.Profile.{sleeps}
use Rattle.set_plan.specs.Rules.{plan_refusal}
use Rattle.set_record.specs.Record.{record_of}
use Rattle.machine_master.specs.declared.Reply.{Reply}
use Rattle.machine_master.specs.Changes.{power_on, refuse}
use Rattle.machine_master.specs.Step.{step_under}
use Rattle.packed_master.specs.Offsets.{master_length, reply_length}
use Rattle.packed_master.specs.States.{master_bytes, master_of}
use Rattle.packed_master.specs.Events.{event_of}
use Rattle.packed_master.specs.Replies.{replied}
use Rattle.cxpi.specs.PowerOn.{start_refusal}

-- power-on: a refused one leaves the buffer, since zero bytes would be a state
abbrev pub master_on : List ℕ → List ℕ → List ℕ
master_on plan state =
    if_else (eqb (start_refusal master_length plan (length state)) 0) (sets state 0 (master_bytes (power_on (sleeps (record_of plan))))) state

-- the order of a step's numbers: the plan's, 3 to 8; then 10 for a reply buffer of so many bytes that is too short; then the step's own,
-- to which bytes that are no state give 11 and bytes that are no event 15
abbrev pub master_reply : List ℕ → List ℕ → List ℕ → ℕ → Reply
master_reply plan state event room =
    if_else (eqb (plan_refusal (record_of plan)) 0)
    (if_else (ltb room reply_length) (refuse (power_on true) 10) (step_under (record_of plan) (master_of state) (event_of event)))
    (refuse (power_on true) (plan_refusal (record_of plan)))

-- "A refused step returns the state as given"; "13 and 14 alone change it"
abbrev pub changes_state : ℕ → Bool
changes_state refusal = eqb refusal 0 || eqb refusal 13 || eqb refusal 14

abbrev pub master_leaves : Reply → List ℕ → List ℕ
master_leaves r state = if_else (changes_state r.refusal) (sets state 0 (master_bytes r.master)) state

-- the reply is written in every call: "no command, lost 0" where it is refused
abbrev pub master_replies : Reply → List ℕ → List ℕ
master_replies r reply = replied r.command r.lost r.node reply
