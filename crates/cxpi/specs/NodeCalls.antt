-- What the calls on a node return and leave.
use Rattle.std.specs.Prelude.{ℕ, true, List, length, ltb, eqb}
use Rattle.std.proofs.lemmas.List.Edits.{sets}
use Rattle.base_lists.specs.Bounded.{if_else}
use Rattle.set_plan.specs.Profile.{sleeps}
use Rattle.set_plan.specs.Rules.{plan_refusal}
use Rattle.set_record.specs.Record.{record_of}
use Rattle.machine_node.specs.declared.Reply.{Reply}
use Rattle.machine_node.specs.Changes.{power_on, refuse}
use Rattle.machine_node.specs.Step.{step_under}
use Rattle.packed_node.specs.Offsets.{node_length, reply_length}
use Rattle.packed_node.specs.States.{node_bytes, node_of}
use Rattle.packed_node.specs.Events.{event_of}
use Rattle.packed_node.specs.Replies.{replied}
use Rattle.cxpi.specs.PowerOn.{start_refusal}

-- power-on: a refused one leaves the buffer
abbrev pub node_on : List ℕ → List ℕ → List ℕ
node_on plan state =
    if_else (eqb (start_refusal node_length plan (length state)) 0) (sets state 0 (node_bytes (power_on (sleeps (record_of plan))))) state

-- the numbers of a step, in the master's order
abbrev pub node_reply : List ℕ → ℕ → List ℕ → List ℕ → ℕ → Reply
node_reply plan me state event room =
    if_else (eqb (plan_refusal (record_of plan)) 0)
    (if_else (ltb room reply_length) (refuse (power_on true) 10) (step_under (record_of plan) me (node_of state) (event_of event)))
    (refuse (power_on true) (plan_refusal (record_of plan)))

-- "A refused step returns the state as given"
abbrev pub node_leaves : Reply → List ℕ → List ℕ
node_leaves r state = if_else (eqb r.refusal 0) (sets state 0 (node_bytes r.node)) state

-- the reply is written in every call: "no command" where it is refused
abbrev pub node_replies : Reply → List ℕ → List ℕ
node_replies r reply = replied r.command reply
