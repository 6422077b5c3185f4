-- What the master's batch call leaves in the state's bytes.
use Rattle.std.specs.Prelude.{ℕ, List, eqb}
use Rattle.base_lists.specs.Bounded.{if_else}
use Rattle.set_plan.specs.declared.Plan.{Plan}
use Rattle.set_plan.specs.Profile.{sleeps}
use Rattle.set_plan.specs.Rules.{plan_refusal}
use Rattle.set_record.specs.Record.{record_of}
use Rattle.machine_master.specs.declared.Master.{Master}
use Rattle.machine_master.specs.Range.{in_range}
use Rattle.machine_events.specs.declared.EventRecord.{EventRecord}
use Rattle.machine_events.specs.declared.ReplyRecord.{ReplyRecord}
use Rattle.machine_batch.specs.Batch.{master_after, too_short}
use Rattle.packed_master.specs.States.{master_bytes, master_of}

-- the number that plan or state give every event: "plan 4 to 8 first, then 11", and 3 "before 4"
unfoldable pub standing : Plan → Master → ℕ
standing p m = if_else (eqb (plan_refusal p) 0) (if_else (in_range (sleeps p) p.nodecount p.times m) 0 11) (plan_refusal p)

-- under such a number: the bytes of a master where it is 0, else as they were
abbrev pub left_under : ℕ → List ℕ → Master → List ℕ
left_under number state m = if_else (eqb number 0) (master_bytes m) state

-- after the last event; "If the answer list is shorter than the event list nothing is done"
abbrev pub batch_leaves : List ℕ → List ℕ → List EventRecord → List ReplyRecord → List ℕ
batch_leaves plan state es rs =
    if_else (too_short es rs) state
    (left_under (standing (record_of plan) (master_of state)) state (master_after (record_of plan) (master_of state) es))
