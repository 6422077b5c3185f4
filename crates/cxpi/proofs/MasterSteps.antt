-- A step of the master, by the way that its code takes.
use Rattle.std.specs.Prelude.{Some, None}
use Prim.Native.Nat.{ℕ, ◌+◌, ◌≤◌, ◌<◌}
use mathlib.Core.Path.{◌≡◌, refl, sym, ◌∙◌, ap, subst}
use mathlib.Core.Bool.{true, false}
use mathlib.Core.List.{List}
use lib.ListN.{length, get_or}
use native.Mathlib.Omega.{arith}
use borrow.Author.Tests.{eq-eqb, ne_eqb, le-ltb, lt-ltb}
use Rattle.base_lists.proofs.Choices.{no_way}
use Rattle.base_lists.proofs.Rules.{number_only}
use Rattle.base_bytes.specs.Bytes.{byte}
use Rattle.set_plan.specs.declared.Plan.{Plan}
use Rattle.set_plan.specs.Profile.{sleeps}
use Rattle.set_plan.specs.Rules.{plan_rules, plan_refusal}
use Rattle.set_record.specs.Record.{record_of}
use Rattle.machine_master.specs.declared.Command.{Command}
use Rattle.machine_master.specs.declared.Event.{Event}
use Rattle.machine_master.specs.declared.Reply.{Reply}
use Rattle.machine_master.specs.Range.{in_range}
use Rattle.machine_master.specs.Step.{row_asked, step_in_range, step_under}
use Rattle.packed_master.specs.Replies.{replied}
use Rattle.packed_master.specs.States.{master_of}
use Rattle.packed_master.specs.Events.{event_of}
use Rattle.packed_master.proofs.StateTrips.{range_long, range_packed}
use Rattle.packed_master_steps.specs.InPlace.{outcome, leaves}
use Rattle.packed_master_steps.proofs.Outcomes.{written, done, left}
use Rattle.cxpi.specs.MasterCalls.{master_reply, changes_state, master_leaves, master_replies}

-- what a step gives of a reply: the number, the state's bytes and the reply's
abbrev pub Gives : Reply → List ℕ → List ℕ → ℕ → List ℕ → List ℕ → Type 0
Gives given state reply number after said = (number ≡ given.refusal) × (after ≡ master_leaves given state) × (said ≡ master_replies given reply)

-- the plan's numbers, 3 to 8, leave the state
plan-leaves : (p : Plan) → (plan_refusal p ≡ 0 → ⊥) → changes_state (plan_refusal p) ≡ false
unfolding plan_refusal
plan-leaves p n = rw (ne_eqb (plan_refusal p) 0 n, ne_eqb (plan_refusal p) 13 (far 10 refl), ne_eqb (plan_refusal p) 14 (far 11 refl))
  where
    far : (i : ℕ) → get_or (plan_rules p) i true ≡ true → plan_refusal p ≡ 3 + i → ⊥
    far i t e = no_way (sym (number_only 3 i (plan_rules p) (omega arith) e).broken ∙ t)

module _ (plan state event reply : List ℕ) where
  abbrev Step : ℕ → List ℕ → List ℕ → Type 0
  Step number after said = Gives (master_reply plan state event (length reply)) state reply number after said

  pub master_refused : (refusal number : ℕ) (said : List ℕ) → refusal ≡ plan_refusal (record_of plan) → (refusal ≡ 0 → ⊥)
      → (number ≡ refusal) × (said ≡ replied Command.Nothing 0 0 reply) → Step number state said
  master_refused refusal number said is n f =
      let broken : plan_refusal (record_of plan) ≡ 0 → ⊥ = λ z. n (is ∙ z) in
      rw (ne_eqb (plan_refusal (record_of plan)) 0 broken) (f.0 ∙ is, rw (plan-leaves (record_of plan) broken), f.1)

  module _ (kept : plan_refusal (record_of plan) ≡ 0) where
    pub master_short : length reply < 3 → Step 10 state reply
    master_short h = rw (eq-eqb (plan_refusal (record_of plan)) 0 kept, lt-ltb (length reply) 3 h) (refl, refl, refl)

    pub master_under : 3 ≤ length reply → (e : Event) → e ≡ event_of event → (number : ℕ) (after said : List ℕ)
        → Gives (step_under (record_of plan) (master_of state) e) state reply number after said → Step number after said
    master_under h e is number after said f =
        let given : master_reply plan state event (length reply) ≡ step_under (record_of plan) (master_of state) (event_of event) = rw (eq-eqb (plan_refusal (record_of plan)) 0 kept, le-ltb (length reply) 3 h) in
        subst (λ (r : Reply). Gives r state reply number after said) (ap (step_under (record_of plan) (master_of state)) is ∙ sym given) f

-- under a plan that is accepted
module _ (p : Plan) (state reply : List ℕ) (event : Event) where
  abbrev Under : ℕ → List ℕ → List ℕ → Type 0
  Under number after said = Gives (step_under p (master_of state) event) state reply number after said

  pub master_out : in_range (sleeps p) p.nodecount p.times (master_of state) ≡ false → (number : ℕ) (said : List ℕ)
      → (number ≡ 11) × (said ≡ replied Command.Nothing 0 0 reply) → Under number state said
  master_out o number said f = rw o (f.0, refl, f.1)

  module _ (right : in_range (sleeps p) p.nodecount p.times (master_of state) ≡ true) (middle : List ℕ) (w : middle ≡ leaves p state event) where
    pub master_in_place : plan_refusal p ≡ 0 → ((o : ℕ) → byte state o < 256) → (lost number : ℕ) (said : List ℕ) → outcome p state event ≡ Some lost
        → (number ≡ 0) × (said ≡ replied Command.Nothing lost 0 reply) → Under number middle said
    master_in_place ok bytes lost number said o f =
        let does = done p state ok right (range_packed (sleeps p) p.nodecount p.times state right bytes) event lost o in
        let long = range_long (sleeps p) p.nodecount p.times state right in
        rw does.step (f.0, w ∙ does.bytes ∙ sym (written state does.next long does.sized), f.1)

    pub master_left : (given : Reply) (number : ℕ) (after said : List ℕ) → outcome p state event ≡ None
        → given ≡ step_in_range (sleeps p) p.nodecount p.times (row_asked p event) (master_of state) event
        → Gives given middle reply number after said → Under number after said
    master_left given number after said o is f =
        let same : middle ≡ state = w ∙ left p state event o in
        let step : step_under p (master_of state) event ≡ given = rw right (sym is) in
        rw step (f.0, f.1 ∙ ap (master_leaves given) same, f.2)
