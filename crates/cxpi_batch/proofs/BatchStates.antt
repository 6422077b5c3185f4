-- The number that plan or state give every event, and the state's bytes under it.
use Rattle.std.specs.Prelude.{Some, None}
use Prim.Native.Nat.{ℕ, ◌<◌}
use mathlib.Core.Path.{◌≡◌, refl, sym, ◌∙◌, ap}
use mathlib.Core.Bool.{Bool, true, false, not, ◌||◌}
use mathlib.Core.List.{List}
use lib.ListN.{length}
use lib.Dec.{eqb}
use lib.Seq.{sets}
use native.Mathlib.Omega.{arith}
use borrow.Author.Tests.{eqb-true, eqb-false, eq-eqb, ne_eqb}
use Rattle.base_lists.specs.Bounded.{if_else}
use Rattle.base_lists.proofs.Choices.{no_way}
use Rattle.base_bytes.specs.Bytes.{byte}
use Rattle.set_plan.specs.declared.Plan.{Plan}
use Rattle.set_plan.specs.Profile.{sleeps}
use Rattle.set_plan.specs.Rules.{plan_refusal}
use Rattle.machine_master.specs.declared.Master.{Master}
use Rattle.machine_master.specs.declared.Event.{Event}
use Rattle.machine_master.specs.declared.Reply.{Reply}
use Rattle.machine_master.specs.Changes.{refuse}
use Rattle.machine_master.specs.Range.{in_range}
use Rattle.machine_master.specs.Step.{step_under, master_step}
use Rattle.machine_master.proofs.InRange.{range_kept}
use Rattle.machine_events.specs.declared.EventRecord.{EventRecord}
use Rattle.machine_events.specs.declared.ReplyRecord.{ReplyRecord}
use Rattle.machine_events.specs.Events.{event_of}
use Rattle.machine_events.specs.Replies.{command_number, reply_record}
use Rattle.machine_batch.specs.Batch.{stepped}
use Rattle.packed_master.specs.States.{master_bytes, master_of}
use Rattle.packed_master.proofs.StateTrips.{range_long, range_packed}
use Rattle.packed_master_steps.specs.InPlace.{outcome, leaves}
use Rattle.packed_master_steps.proofs.Masters.{Sized}
use Rattle.packed_master_steps.proofs.Outcomes.{written, back, done, left}
use Rattle.cxpi_batch.specs.BatchCalls.{standing, left_under}

module _ (p : Plan) (m : Master) where
  pub by_plan : (plan_refusal p ≡ 0 → ⊥) → plan_refusal p ≡ standing p m
  unfolding standing
  by_plan n = rw (ne_eqb (plan_refusal p) 0 n)

  pub by_state : plan_refusal p ≡ 0 → in_range (sleeps p) p.nodecount p.times m ≡ false → 11 ≡ standing p m
  unfolding standing
  by_state z o = rw (z, o)

  pub by_none : plan_refusal p ≡ 0 → in_range (sleeps p) p.nodecount p.times m ≡ true → 0 ≡ standing p m
  unfolding standing
  by_none z o = rw (z, o)

  -- 0 only where both are right
  pub none_only : standing p m ≡ 0 → (plan_refusal p ≡ 0) × (in_range (sleeps p) p.nodecount p.times m ≡ true)
  unfolding standing
  none_only e = go (eqb (plan_refusal p) 0) (in_range (sleeps p) p.nodecount p.times m) refl refl
    where
      go : (a b : Bool) → eqb (plan_refusal p) 0 ≡ a → in_range (sleeps p) p.nodecount p.times m ≡ b → (plan_refusal p ≡ 0) × (in_range (sleeps p) p.nodecount p.times m ≡ true)
      go true true h g = (eqb-true _ _ h, g)
      go true false h g = let w : ◌≡◌ {A = ℕ} 11 0 = rw (h, g) at e in absurd (omega (arith, w))
      go false b h g = let w : plan_refusal p ≡ 0 = rw h at e in let v : ◌≡◌ {A = Bool} true false = rw w at h in no_way (sym v)

-- ---- what a function that judges or steps leaves: its number or reply, the bytes, and the master of them
module _ (p : Plan) (s : List ℕ) where
  pub plan_stands : (r : ℕ) → r ≡ plan_refusal p → (r ≡ 0 → ⊥) → (r ≡ standing p (master_of s)) × (s ≡ left_under r s (master_of s))
  plan_stands r e n = (e ∙ by_plan p (master_of s) (λ z. n (e ∙ z)), rw (ne_eqb r 0 n))

  pub state_stands : plan_refusal p ≡ 0 → in_range (sleeps p) p.nodecount p.times (master_of s) ≡ false → (11 ≡ standing p (master_of s)) × (s ≡ left_under 11 s (master_of s))
  state_stands z o = (by_state p (master_of s) z o, refl)

  pub none_stands : plan_refusal p ≡ 0 → in_range (sleeps p) p.nodecount p.times (master_of s) ≡ true → ((o : ℕ) → byte s o < 256) → (0 ≡ standing p (master_of s)) × (s ≡ left_under 0 s (master_of s))
  none_stands z o bytes = (by_none p (master_of s) z o, range_packed (sleeps p) p.nodecount p.times s o bytes)

  pub machine_done : (e : Event) (r : Reply) (number : ℕ) (after : List ℕ) → standing p (master_of s) ≡ 0 → r ≡ step_under p (master_of s) e → number ≡ command_number r.command
      → Sized r.master → after ≡ sets s 0 (master_bytes r.master)
      → (◌≡◌ {A = ReplyRecord} (record { refusal = r.refusal; node = r.node; command = number; lost = r.lost }) (reply_record (master_step p (master_of s) e)))
      × (after ≡ master_bytes (master_step p (master_of s) e).master) × (master_of after ≡ (master_step p (master_of s) e).master)
  machine_done e r number after n is c sized w =
      let right = none_only p (master_of s) n in
      let bytes = w ∙ written s r.master (range_long (sleeps p) p.nodecount p.times s right.1) sized in
      rw (right.0, ← is) (rw c refl, bytes, ap master_of bytes ∙ back r.master sized)

  -- under another number every event is refused by it
  refuses : (standing p (master_of s) ≡ 0 → ⊥) → (e : Event) → master_step p (master_of s) e ≡ refuse (master_of s) (standing p (master_of s))
  unfolding standing
  refuses n e = go (eqb (plan_refusal p) 0) (in_range (sleeps p) p.nodecount p.times (master_of s)) refl refl
    where
      go : (a b : Bool) → eqb (plan_refusal p) 0 ≡ a → in_range (sleeps p) p.nodecount p.times (master_of s) ≡ b
          → master_step p (master_of s) e ≡ refuse (master_of s) (if_else (eqb (plan_refusal p) 0) (if_else (in_range (sleeps p) p.nodecount p.times (master_of s)) 0 11) (plan_refusal p))
      go true true h g = absurd (n (rw (h, g)))
      go true false h g = rw (h, g)
      go false b h g = rw h

  pub refused_done : (e : EventRecord) (number : ℕ) → number ≡ standing p (master_of s) → (not (eqb number 0) || not (eqb (length s) 201)) ≡ true
      → (◌≡◌ {A = ReplyRecord} (record { refusal = number; node = 0; command = 0; lost = 0 }) (stepped p (master_of s) e).reply)
      × (s ≡ left_under number s (stepped p (master_of s) e).master) × (master_of s ≡ (stepped p (master_of s) e).master)
  unfolding stepped
  refused_done e number is t = go (eqb number 0) refl
    where
      go : (b : Bool) → eqb number 0 ≡ b
          → (◌≡◌ {A = ReplyRecord} (record { refusal = number; node = 0; command = 0; lost = 0 }) (stepped p (master_of s) e).reply)
          × (s ≡ left_under number s (stepped p (master_of s) e).master) × (master_of s ≡ (stepped p (master_of s) e).master)
      go true h =
          let right = none_only p (master_of s) (sym is ∙ eqb-true number 0 h) in
          no_way (rw (h, eq-eqb (length s) 201 (range_long (sleeps p) p.nodecount p.times s right.1)) at t)
      go false h =
          let step = refuses (λ z. eqb-false number 0 h (is ∙ z)) (event_of e) in
          (rw (step, ← is), rw h, rw step)

  -- under 0, by what is done of the event in the bytes
  module _ (e : EventRecord) (event : Event) (named : event ≡ event_of e) (number : ℕ) (is : number ≡ standing p (master_of s)) (packed : s ≡ left_under number s (master_of s))
      (t : (not (eqb number 0) || not (eqb (length s) 201)) ≡ false) (middle : List ℕ) (w : middle ≡ leaves p s event) where
    none : number ≡ 0
    none = eqb-true number 0 (go (eqb number 0) refl)
      where
        go : (b : Bool) → eqb number 0 ≡ b → eqb number 0 ≡ true
        go true h = h
        go false h = no_way (sym (rw h at t))

    stands : standing p (master_of s) ≡ 0
    stands = sym is ∙ none

    pub in_place_done : (lost : ℕ) → outcome p s event ≡ Some lost
        → (◌≡◌ {A = ReplyRecord} (record { refusal = 0; node = 0; command = 0; lost = lost }) (stepped p (master_of s) e).reply)
        × (middle ≡ left_under number s (stepped p (master_of s) e).master) × (master_of middle ≡ (stepped p (master_of s) e).master)
    unfolding stepped
    in_place_done lost o =
        let right = none_only p (master_of s) stands in
        let does = done p s right.0 right.1 (rw none at packed) event lost o in
        let step = ap (step_under p (master_of s)) (sym named) ∙ does.step in
        let bytes = w ∙ does.bytes in
        rw (none, right.0, step) (refl, bytes, ap master_of bytes ∙ back does.next does.sized)

    module _ (o : outcome p s event ≡ None) where
      same : middle ≡ s
      same = w ∙ left p s event o

      pub left_stands : standing p (master_of middle) ≡ 0
      left_stands = ap (λ (l : List ℕ). standing p (master_of l)) same ∙ stands

      pub left_done : (r : ReplyRecord) (after : List ℕ) → (r ≡ reply_record (master_step p (master_of middle) event))
          × (after ≡ master_bytes (master_step p (master_of middle) event).master) × (master_of after ≡ (master_step p (master_of middle) event).master)
          → (r ≡ (stepped p (master_of s) e).reply) × (after ≡ left_under number s (stepped p (master_of s) e).master) × (master_of after ≡ (stepped p (master_of s) e).master)
      unfolding stepped
      left_done r after f =
          let step = ap (λ (l : List ℕ). master_step p (master_of l) event) same ∙ ap (master_step p (master_of s)) named in
          rw none (f.0 ∙ ap reply_record step, f.1 ∙ ap (λ (x : Reply). master_bytes x.master) step, f.2 ∙ ap (λ (x : Reply). x.master) step)

-- ---- from event to event
-- no event changes the number
pub standing_kept : (p : Plan) (m : Master) (e : EventRecord) → standing p (stepped p m e).master ≡ standing p m
unfolding stepped
standing_kept p m e = go (eqb (plan_refusal p) 0) (in_range (sleeps p) p.nodecount p.times m) refl refl
  where
    go : (a b : Bool) → eqb (plan_refusal p) 0 ≡ a → in_range (sleeps p) p.nodecount p.times m ≡ b → standing p (master_step p m (event_of e)).master ≡ standing p m
    go true true h g =
        let z : plan_refusal p ≡ 0 = eqb-true _ _ h in
        sym (by_none p (master_step p m (event_of e)).master z (range_kept p z m (event_of e) g)) ∙ by_none p m z g
    go true false h g = rw (h, g)
    go false b h g = rw h

module _ (number : ℕ) (b s : List ℕ) (m : Master) (left : b ≡ left_under number s m) where
  pub left_self : b ≡ left_under number b m
  left_self = go (eqb number 0) left
    where
      go : (a : Bool) → b ≡ if_else a (master_bytes m) s → b ≡ if_else a (master_bytes m) b
      go true e = e
      go false e = refl

  pub left_on : (n : Master) → left_under number b n ≡ left_under number s n
  left_on n = go (eqb number 0) left
    where
      go : (a : Bool) → b ≡ if_else a (master_bytes m) s → if_else a (master_bytes n) b ≡ if_else a (master_bytes n) s
      go true e = refl
      go false e = e
