-- What is done of an event in the bytes of a state that is judged is the machine's step.
use Rattle.std.proofs.Common.{◌≡◌, ℕ, ◌+◌, Bool, true, false, List, length, sym, refl, ap, ◌∙◌, arith, Option, Some, None}
use lib.Seq.{sets}
use Rattle.base_lists.proofs.AllAny.{halves}
use Rattle.base_lists.proofs.Choices.{by_test}
use Rattle.base_lists.proofs.Tables.{length-tab}
use Rattle.base_bytes.specs.Bytes.{byte}
use Rattle.machine_state.specs.Bytes.{table_at}
use Rattle.set_plan.specs.declared.Times.{Times}
use Rattle.set_plan.specs.declared.Plan.{Plan}
use Rattle.set_plan.specs.declared.Row.{Row}
use Rattle.set_plan.specs.Find.{rising_row}
use Rattle.set_plan.specs.Profile.{sleeps}
use Rattle.set_plan.specs.Rules.{plan_refusal}
use Rattle.machine_master.specs.declared.Answer.{Answer}
use Rattle.machine_master.specs.declared.Event.{Event}
use Rattle.machine_master.specs.declared.Master.{Master}
use Rattle.machine_master.specs.Answers.{reports}
use Rattle.machine_master.specs.Range.{in_range, holds_right}
use Rattle.machine_master.specs.Step.{step_under}
use Rattle.machine_master.specs.Ticks.{aged}
use Rattle.packed_master.specs.States.{hold_of, holds_of, cause_byte_at, causes_of, master_bytes, is_master, master_of}
use Rattle.packed_master.proofs.StateTrips.{packed_long, packed_back}
use Rattle.packed_master_steps.specs.InPlace.{is_quiet, aged_bytes, is_kept, accepting, kept_row, lost_before, answer_kept, outcome, leaves}
use Rattle.packed_master_steps.proofs.Masters.{Sized, aged_master, aged_sized, keeps, kept_master, kept_sized, lost_master}
use Rattle.packed_master_steps.proofs.Parts.{sets-whole}
use Rattle.packed_master_steps.proofs.Steps.{quiet_tick_lem, kept_answer}

pub state_sized : (s : List ℕ) → Sized (master_of s)
unfolding holds_of causes_of table_at
state_sized s =
    by_test Sized (is_master s) (λ e. record { holds = length-tab 16 (hold_of s); counts = length-tab 128 (λ i. byte s (57 + i)); causes = length-tab 16 (cause_byte_at s) })
    (λ e. record { holds = refl; counts = refl; causes = refl })

pub written : (s : List ℕ) (m : Master) → length s ≡ 201 → Sized m → sets s 0 (master_bytes m) ≡ master_bytes m
written s m h sized = sets-whole (master_bytes m) s (packed_long m sized.holds sized.counts sized.causes ∙ sym h)

pub back : (m : Master) → Sized m → master_of (master_bytes m) ≡ m
back m sized = packed_back m sized.holds sized.counts sized.causes

permissions_right : (sleeps : Bool) (n : ℕ) (t : Times) (m : Master) → in_range sleeps n t m ≡ true → holds_right n t.window m.holds ≡ true
unfolding in_range
permissions_right sleeps n t m e = search halves depth 6

not_left : (lost : ℕ) → None ≡ Some lost → ⊥
not_left lost e = let z : ◌≡◌ {A = ℕ} 0 1 = cc in omega arith

-- ---- what the code gives, by the way that it takes
module _ (p : Plan) (s : List ℕ) where
  pub tick_moves : (after : List ℕ) → is_quiet s ≡ true → after ≡ aged_bytes p.nodecount p.times.window s → (Some 0 ≡ outcome p s Event.Tick) × (after ≡ leaves p s Event.Tick)
  tick_moves after q w = rw q (refl, w)

  pub tick_stops : is_quiet s ≡ false → (None ≡ outcome p s Event.Tick) × (s ≡ leaves p s Event.Tick)
  tick_stops q = rw q (refl, refl)

  pub answer_moves : (a : Answer) (row : Row) (lost : ℕ) (after : List ℕ) → kept_row p s a ≡ Some row → lost ≡ lost_before row a.count s → after ≡ answer_kept row a.count s
      → (Some lost ≡ outcome p s (Event.Answer a)) × (after ≡ leaves p s (Event.Answer a))
  answer_moves a row lost after f l w = rw f (ap (λ (k : ℕ). Some k) l, w)

  pub answer_stops : (a : Answer) → kept_row p s a ≡ None → (None ≡ outcome p s (Event.Answer a)) × (s ≡ leaves p s (Event.Answer a))
  answer_stops a f = rw f (refl, refl)

-- ---- what that is of the machine
-- the step of an event that is done, and the bytes of the master after it
pub record Does (p : Plan) (s : List ℕ) (e : Event) (lost : ℕ) : Type 0 where
  pub next : Master
  pub sized : Sized next
  pub step : step_under p (master_of s) e ≡ reports lost next
  pub bytes : leaves p s e ≡ master_bytes next

module _ (p : Plan) (s : List ℕ) (ok : plan_refusal p ≡ 0) (right : in_range (sleeps p) p.nodecount p.times (master_of s) ≡ true) (packed : s ≡ master_bytes (master_of s)) where
  tick_done : (lost : ℕ) → outcome p s Event.Tick ≡ Some lost → Does p s Event.Tick lost
  tick_done lost o = go (is_quiet s) refl
    where
      go : (b : Bool) → is_quiet s ≡ b → Does p s Event.Tick lost
      go true q =
          let m = master_of s in
          let window = p.times.window in
          let given : Some 0 ≡ Some lost = rw q at o in
          let none : 0 ≡ lost = cc in
          record {
            next = aged window m;
            sized = aged_sized m window (state_sized s);
            step = quiet_tick_lem p m right (ap is_quiet (sym packed) ∙ q) ∙ ap (λ (k : ℕ). reports k (aged window m)) none;
            bytes = rw q (ap (aged_bytes p.nodecount window) packed ∙ aged_master m p.nodecount window (state_sized s) (permissions_right (sleeps p) p.nodecount p.times m right));
          }
      go false q = absurd (not_left lost (rw q at o))

  answer_kept_lem : (a : Answer) (row : Row) → is_kept s a ≡ true → accepting (rising_row p a.reqid) a.length ≡ Some row → Does p s (Event.Answer a) (lost_before row a.count s)
  answer_kept_lem a row k f =
      let m = master_of s in
      let sized = state_sized s in
      let kept = kept_answer p m a row ok right (ap (λ (x : List ℕ). is_kept x a) (sym packed) ∙ k) f in
      let lost = ap (lost_before row a.count) packed ∙ lost_master m row a.count sized kept.node kept.reqid in
      record {
        next = keeps row a.count m;
        sized = kept_sized m row a.count sized kept.node kept.reqid;
        step = kept.step ∙ ap (λ (l : ℕ). reports l (keeps row a.count m)) (sym lost);
        bytes = rw (k, f) (ap (answer_kept row a.count) packed ∙ kept_master m row a.count sized kept.node kept.reqid);
      }

  answer_done : (a : Answer) (lost : ℕ) → outcome p s (Event.Answer a) ≡ Some lost → Does p s (Event.Answer a) lost
  answer_done a lost o = go (is_kept s a) (accepting (rising_row p a.reqid) a.length) refl refl
    where
      go : (b : Bool) (f : Option Row) → is_kept s a ≡ b → accepting (rising_row p a.reqid) a.length ≡ f → Does p s (Event.Answer a) lost
      go true (Some row) k f =
          let given : Some (lost_before row a.count s) ≡ Some lost = rw (k, f) at o in
          let is : lost_before row a.count s ≡ lost = cc in
          rw is at (answer_kept_lem a row k f)
      go true None k f = absurd (not_left lost (rw (k, f) at o))
      go false l k f = absurd (not_left lost (rw k at o))

  pub done : (e : Event) (lost : ℕ) → outcome p s e ≡ Some lost → Does p s e lost
  done Event.Tick lost o = tick_done lost o
  done (Event.Answer a) lost o = answer_done a lost o
  done Event.Pulse lost o = absurd (not_left lost o)
  done Event.WakeAsk lost o = absurd (not_left lost o)
  done (Event.Permission permitted) lost o = absurd (not_left lost o)
  done Event.SleepAsk lost o = absurd (not_left lost o)
  done (Event.SendResult sent) lost o = absurd (not_left lost o)

-- an event that is left to the machine leaves the bytes
module _ (p : Plan) (s : List ℕ) where
  tick_left : outcome p s Event.Tick ≡ None → leaves p s Event.Tick ≡ s
  tick_left o = go (is_quiet s) refl
    where
      go : (b : Bool) → is_quiet s ≡ b → leaves p s Event.Tick ≡ s
      go true q = absurd (not_left 0 (sym (rw q at o)))
      go false q = rw q

  answer_left : (a : Answer) → outcome p s (Event.Answer a) ≡ None → leaves p s (Event.Answer a) ≡ s
  answer_left a o = go (kept_row p s a) refl
    where
      go : (f : Option Row) → kept_row p s a ≡ f → leaves p s (Event.Answer a) ≡ s
      go (Some row) f = absurd (not_left (lost_before row a.count s) (sym (rw f at o)))
      go None f = rw f

  pub left : (e : Event) → outcome p s e ≡ None → leaves p s e ≡ s
  left Event.Tick o = tick_left o
  left (Event.Answer a) o = answer_left a o
  left Event.Pulse o = refl
  left Event.WakeAsk o = refl
  left (Event.Permission permitted) o = refl
  left Event.SleepAsk o = refl
  left (Event.SendResult sent) o = refl
