-- By the state, then by what is done in its bytes.
use Rattle.std.proofs.Common.{rules, ◌≡◌, true, refl}
use Rattle.set_plan.specs.Profile.{sleeps}
use Rattle.set_record.specs.Record.{record_of}
use Rattle.machine_master.specs.Range.{in_range}
use Rattle.packed_master.specs.States.{master_of}
use Rattle.packed_master.proofs.StateTrips.{other_length}
use Rattle.cxpi.proofs.CallLaws.{no_master_state}
use Rattle.cxpi.proofs.MasterSteps.{master_out, master_in_place, master_left}
use Rattle.cxpi.proofs.masters.step_under.Goals as goal

pub returns-then-state-ne-LENGTH : goal.returns-then-state-ne-LENGTH
returns-then-state-ne-LENGTH c =
    let p = record_of c.args.plan.now in
    master_out p c.args.state.now c.args.reply.now c.args.event (no_master_state p c.args.state.now (other_length c.args.state.now c.if-state-ne-LENGTH.true)) _ _ c.refused.ensures

pub returns-in-Some : goal.returns-in-Some
returns-in-Some c =
    let p = record_of c.args.plan.now in
    let right : in_range (sleeps p) p.nodecount p.times (master_of c.args.state.now) ≡ true = search rules in
    master_in_place p c.args.state.now c.args.reply.now c.args.event right _ c.step_in_place-outcome.ensures.1 c.requires (λ o. search rules) _ _ _ (search rules) (refl, c.put_reply.ensures)

pub returns-in-None : goal.returns-in-None
returns-in-None c =
    let p = record_of c.args.plan.now in
    let right : in_range (sleeps p) p.nodecount p.times (master_of c.args.state.now) ≡ true = search rules in
    master_left p c.args.state.now c.args.reply.now c.args.event right _ c.step_in_place-outcome.ensures.1 c.step_in_range-given.result _ _ _ (search rules) (search rules) c.give.ensures
