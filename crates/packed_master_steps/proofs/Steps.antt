-- The events that are done in the bytes of a state, as the master's own step has them.
use Rattle.std.proofs.Common.{◌≡◌, ℕ, ◌<◌, Bool, true, false, not, ◌&&◌, eqb, ltb, get_or, sym, refl, ap, ◌∙◌, arith, ltb-true, eqb-true, Option, Some, None}
use borrow.Author.Tests.{not-true}
use Rattle.base_lists.specs.Bounded.{if_else}
use Rattle.base_lists.proofs.AllAny.{and_l, and_r}
use Rattle.base_lists.proofs.Choices.{no_way}
use Rattle.machine_state.specs.declared.State.{State}
use Rattle.machine_state.specs.Bytes.{state_byte}
use Rattle.set_plan.specs.declared.Row.{Row}
use Rattle.set_plan.specs.declared.Times.{Times}
use Rattle.set_plan.specs.declared.Plan.{Plan}
use Rattle.set_plan.specs.Limits.{reqids, seq_counts}
use Rattle.set_plan.specs.Answering.{master_number, is_counted, accepts}
use Rattle.set_plan.specs.Find.{find_row, rising_row}
use Rattle.set_plan.specs.Profile.{sleeps}
use Rattle.set_plan.specs.Rules.{plan_refusal}
use Rattle.set_plan.proofs.Accepted.{accepted, nodes_few}
use Rattle.set_plan.proofs.Lookups.{found_row, found_publisher}
use Rattle.set_plan.proofs.RisingRows.{rising_found}
use Rattle.machine_master.specs.declared.Phase.{Phase}
use Rattle.machine_master.specs.declared.Answer.{Answer}
use Rattle.machine_master.specs.declared.Event.{Event}
use Rattle.machine_master.specs.declared.Master.{Master}
use Rattle.machine_master.specs.Changes.{cause_new, with_cause, hold, silent}
use Rattle.machine_master.specs.Range.{in_range}
use Rattle.machine_master.specs.Answers.{lost_after, count_stored, reports, answer_by, answer_step}
use Rattle.machine_master.specs.Ticks.{aged, tick_by}
use Rattle.machine_master.specs.Step.{step_under}
use Rattle.packed_master.specs.States.{phase_byte, master_bytes}
use Rattle.packed_master_steps.specs.InPlace.{tick_keeps_phase, is_quiet, is_kept, accepting}
use Rattle.packed_master_steps.proofs.Masters.{keeps}

quiet_by : (t : Times) (s : State) (phase : Phase) (n : Master) → tick_keeps_phase (state_byte s) (phase_byte phase) ≡ true → tick_by t s phase n ≡ silent n
quiet_by t State.Sleep phase n e = refl
quiet_by t State.Standby phase n e = no_way e
quiet_by t State.Normal Phase.Open n e = refl
quiet_by t State.Normal Phase.Sending n e = refl
quiet_by t State.Normal Phase.Withdrawn n e = refl
quiet_by t State.Normal Phase.Closing n e = no_way e

pub quiet_tick_lem : (p : Plan) (m : Master) → in_range (sleeps p) p.nodecount p.times m ≡ true → is_quiet (master_bytes m) ≡ true
    → step_under p m Event.Tick ≡ silent (aged p.times.window m)
unfolding master_bytes
quiet_tick_lem p m right q = rw right (quiet_by p.times m.state m.phase (aged p.times.window m) q)

-- what is known of a row that is accepted
record Accepts (found : Option Row) (length : ℕ) (row : Row) : Type 0 where
  is : found ≡ Some row
  node : eqb row.publisher master_number ≡ false
  long : accepts row length ≡ true

accepts_only : (found : Option Row) (length : ℕ) (row : Row) → accepting found length ≡ Some row → Accepts found length row
accepts_only None length row e = absurd (let z : ◌≡◌ {A = ℕ} 0 1 = cc in omega arith)
accepts_only (Some r) length row e = go (eqb r.publisher master_number) (accepts r length) refl refl
  where
    go : (a b : Bool) → eqb r.publisher master_number ≡ a → accepts r length ≡ b → Accepts (Some r) length row
    go true b h g = let w : None ≡ Some row = rw h at e in absurd (let z : ◌≡◌ {A = ℕ} 0 1 = cc in omega arith)
    go false false h g = let w : None ≡ Some row = rw (h, g) at e in absurd (let z : ◌≡◌ {A = ℕ} 0 1 = cc in omega arith)
    go false true h g =
        let w : Some r ≡ Some row = rw (h, g) at e in
        let z : r ≡ row = cc in
        record { is = w; node = rw z at h; long = rw z at g }

normal_only : (s : State) → eqb (state_byte s) 0 ≡ true → s ≡ State.Normal
normal_only State.Normal e = refl
normal_only State.Standby e = no_way e
normal_only State.Sleep e = no_way e

-- "held with age 0", and the count kept where the row has one
whole-answer : (m : Master) (row : Row) (a : Answer) → m.state ≡ State.Normal → eqb row.publisher master_number ≡ false → a.result ≡ 0 → accepts row a.length ≡ true
    → a.permission ≡ true → a.wake ≡ false
    → answer_step (Some row) a m ≡ reports (if_else (is_counted row) (lost_after (get_or m.counts row.reqid 0) a.count) 0) (keeps row a.count m)
whole-answer m row a normal node whole long permits calm =
    ap (λ (s : State). answer_by s (Some row) a m) normal ∙ rw (node, whole, long, permits, calm) (by_count (is_counted row))
  where
    by_count : (b : Bool)
        → if_else b (reports (lost_after (get_or m.counts row.reqid 0) a.count) (hold row.publisher (with_cause cause_new row.publisher (count_stored row.reqid a.count m)))) (reports 0 (hold row.publisher (with_cause cause_new row.publisher m)))
        ≡ reports (if_else b (lost_after (get_or m.counts row.reqid 0) a.count) 0) (hold row.publisher (with_cause cause_new row.publisher (if_else b (count_stored row.reqid a.count m) m)))
    by_count true = refl
    by_count false = refl

-- a kept answer's row and what the step makes of it
pub record Keeps (p : Plan) (m : Master) (a : Answer) (row : Row) : Type 0 where
  pub node : row.publisher < 16
  pub reqid : row.reqid < 128
  pub step : step_under p m (Event.Answer a) ≡ reports (if_else (is_counted row) (lost_after (get_or m.counts row.reqid 0) a.count) 0) (keeps row a.count m)

pub kept_answer : (p : Plan) (m : Master) (a : Answer) (row : Row) → plan_refusal p ≡ 0 → in_range (sleeps p) p.nodecount p.times m ≡ true → is_kept (master_bytes m) a ≡ true
    → accepting (rising_row p a.reqid) a.length ≡ Some row → Keeps p m a row
unfolding master_bytes
kept_answer p m a row ok right k f =
    let normal = eqb (state_byte m.state) 0 in
    let fits = ltb a.reqid reqids && ltb a.count seq_counts in
    let bits = a.permission && not a.wake in
    let whole = eqb a.result 0 in
    let three = and_l (normal && fits && bits) whole k in
    let two = and_l (normal && fits) bits three in
    let is_normal_lem : m.state ≡ State.Normal = normal_only m.state (and_l normal fits two) in
    let is_right : (ltb a.reqid reqids && ltb a.count seq_counts) ≡ true = and_r normal fits two in
    let is-bits = and_r (normal && fits) bits three in
    let is-permission : a.permission ≡ true = and_l a.permission (not a.wake) is-bits in
    let is-wake : a.wake ≡ false = not-true a.wake (and_r a.permission (not a.wake) is-bits) in
    let is_whole : a.result ≡ 0 = eqb-true _ _ (and_r (normal && fits && bits) whole k) in
    let known = accepts_only (rising_row p a.reqid) a.length row f in
    let found : find_row p a.reqid ≡ Some row = sym (rising_found p ok a.reqid) ∙ known.is in
    let place = found_row p a.reqid row found in
    let publisher = found_publisher p a.reqid row ok found known.node in
    record {
      node = omega (arith, publisher, nodes_few p (accepted p ok).nodes);
      reqid = omega (arith, place.same, ltb-true a.reqid reqids (and_l (ltb a.reqid reqids) (ltb a.count seq_counts) is_right));
      step = rw (right, is_right, found) (whole-answer m row a is_normal_lem known.node is_whole known.long is-permission is-wake);
    }
