-- What the calls come to for a host: bytes that are no state or no event are refused, a refused step commands nothing, and a set read and
-- written back is the same.
use Prim.Native.Nat.{ℕ, ◌<◌}
use mathlib.Core.Path.{◌≡◌, refl, ap, ◌∙◌}
use mathlib.Core.Bool.{Bool, true, false, ◌&&◌}
use mathlib.Core.List.{List}
use lib.ListN.{replicate}
use lib.Dec.{eqb, leb, ltb}
use borrow.Author.Tests.{eqb-true}
use Rattle.base_lists.proofs.Choices.{by_test}
use Rattle.base_bytes.specs.Bytes.{byte}
use Rattle.machine_state.specs.Counts.{counts_below}
use Rattle.set_plan.specs.declared.Times.{Times}
use Rattle.set_plan.specs.declared.Plan.{Plan}
use Rattle.set_plan.specs.Record.{unused_zero}
use Rattle.set_plan.specs.Profile.{sleeps}
use Rattle.set_plan.specs.Rules.{plan_refusal}
use Rattle.set_record.specs.Record.{record_of, record_bytes}
use Rattle.set_record.proofs.Records.{zero_bytes}
use Rattle.set_reader.specs.Read.{ReadResult}
use Rattle.set_reader.specs.Read.{set_refusal, read_set}
use Rattle.set_reader.proofs.ReadResults.{read_record_back}
use Rattle.set_writer.specs.Write.{write_set}
use Rattle.set_writer.proofs.RoundTrip.{read_of_written, written_of_read}
use Rattle.machine_master.specs.declared.Reply.{Reply}
use Rattle.machine_master.specs.Range as MasterRange
use Rattle.machine_master.specs.Step as MasterStep
use Rattle.machine_master.proofs.Refusals as MasterRefusals
use Rattle.packed_master.specs.States.{is_master, master_of}
use Rattle.machine_events.specs.Events.{no_event}
use Rattle.packed_master.specs.Events as MasterEvents
use Rattle.packed_master.proofs.StateTrips as MasterTrips
use Rattle.machine_node.specs.Range as NodeRange
use Rattle.machine_node.specs.Step as NodeStep
use Rattle.packed_node.specs.States.{is_node, node_of, node_out_of_range}
use Rattle.packed_node.specs.Events as NodeEvents
use Rattle.cxpi.specs.MasterCalls.{master_reply}

-- "bytes that are no state give 11"
pub no_master_state : (p : Plan) (s : List ℕ) → is_master s ≡ false → MasterRange.in_range (sleeps p) p.nodecount p.times (master_of s) ≡ false
no_master_state p s e = rw e (MasterTrips.never_in_range (sleeps p) p.nodecount p.times)

never_in_range : (sleeps : Bool) (t : Times) → NodeRange.in_range sleeps t node_out_of_range ≡ false
unfolding NodeRange.in_range
never_in_range false t = refl
never_in_range true t = go (leb 0 t.quiet) (counts_below 4 node_out_of_range.counts)
  where
    go : (a b : Bool) → (a && true && false && b) ≡ false
    go true b = refl
    go false b = refl

pub no_node_state : (sleeps : Bool) (t : Times) (s : List ℕ) → is_node s ≡ false → NodeRange.in_range sleeps t (node_of s) ≡ false
no_node_state sleeps t s e = rw e (never_in_range sleeps t)

-- "bytes that are no event 15"
pub no_master_event : MasterStep.event_right no_event ≡ false
no_master_event = refl

pub no_node_event : NodeStep.event_right NodeEvents.no_event ≡ false
no_node_event = refl

-- "A refused read returns .. an all-zero record": zero bytes
pub refused_read : (set : List ℕ) → (set_refusal set ≡ 0 → ⊥) → record_bytes (read_set set).plan ≡ replicate 592 0
unfolding read_set
refused_read set n = go (eqb (set_refusal set) 0) refl
  where
    go : (b : Bool) → eqb (set_refusal set) 0 ≡ b → record_bytes (read_set set).plan ≡ replicate 592 0
    go true e = absurd (n (eqb-true _ _ e))
    go false e = rw e zero_bytes

-- "A refused step returns .. no command, lost 0", the plan's numbers and 10 too
module _ (plan state event : List ℕ) (room : ℕ) where
  pub refused_step : ((master_reply plan state event room).refusal ≡ 0 → ⊥) → MasterRefusals.Nothing (master_reply plan state event room)
  refused_step = go (eqb (plan_refusal (record_of plan)) 0) refl
    where
      Quiet : Reply → Type 0
      Quiet r = (r.refusal ≡ 0 → ⊥) → MasterRefusals.Nothing r

      go : (b : Bool) → eqb (plan_refusal (record_of plan)) 0 ≡ b → Quiet (master_reply plan state event room)
      go true e =
          let q = MasterRefusals.refused_plain (master_of state) (record_of plan) (MasterEvents.event_of event) in
          let k : MasterRefusals.Plain (master_of state) (MasterStep.step_under (record_of plan) (master_of state) (MasterEvents.event_of event)) = rw e at q in
          rw e (by_test Quiet (ltb room 3) (λ l h. record { command = refl; lost = refl }) (λ l. k.nothing))
      go false e = rw e (λ h. record { command = refl; lost = refl })

-- a set read and written back through the packed record is the same set
pub set_back : (set : List ℕ) → ((o : ℕ) → byte set o < 256) → (read_set set).refusal ≡ 0 → write_set (record_of (record_bytes (read_set set).plan)) ≡ set
set_back set bytes e = ap write_set (read_record_back set) ∙ written_of_read set bytes e

-- a record written and read back is the plan with its unused places zero
pub record_read_back : (plan : List ℕ) → plan_refusal (record_of plan) ≡ 0 → record_bytes (read_set (write_set (record_of plan))).plan ≡ record_bytes (unused_zero (record_of plan))
record_read_back plan e = ap (λ (a : ReadResult). record_bytes a.plan) (read_of_written (record_of plan) e)
