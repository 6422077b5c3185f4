-- "nothing stands in the way" is said exactly when a sleep ask would be accepted, of every state in range.
use Prim.Native.Nat.{ℕ}
use mathlib.Core.Path.{◌≡◌, refl, sym, ap, ◌∙◌}
use mathlib.Core.Bool.{Bool, true, false, ◌&&◌}
use lib.Dec.{ltb, eqb}
use borrow.Author.Tests.{eq-eqb, eqb-true}
use Rattle.base_lists.specs.Bounded.{if_else, first_to}
use Rattle.base_lists.proofs.AllAny.{and_l, and_r}
use Rattle.base_lists.proofs.Choices.{no_way}
use Rattle.machine_state.specs.declared.State.{State}
use Rattle.set_plan.specs.declared.Plan.{Plan}
use Rattle.set_plan.specs.Profile.{sleeps}
use Rattle.set_plan.specs.Rules.{plan_refusal}
use Rattle.machine_master.specs.declared.Command.{Command}
use Rattle.machine_master.specs.declared.Event.{Event}
use Rattle.machine_master.specs.declared.Master.{Master}
use Rattle.machine_master.specs.declared.Phase.{Phase}
use Rattle.machine_master.specs.Changes.{in_phase, commands, refuse}
use Rattle.machine_master.specs.Range.{in_range}
use Rattle.machine_master.specs.Sleeping.{not_held, missing, sleep_ask_by}
use Rattle.machine_master.specs.Step.{master_step}
use Rattle.machine_reason.specs.declared.Cause.{Cause}
use Rattle.machine_reason.specs.declared.Explained.{Explained}
use Rattle.machine_reason.specs.declared.Reason.{Reason}
use Rattle.machine_reason.specs.Reasons.{reason_by, explained_by, explain_by, explain}

-- a test of what is told: nothing stands in the way
abbrev is_nothing : Reason → Bool
is_nothing Reason.Nothing = true
is_nothing Reason.UnderWay = false
is_nothing Reason.Owed = false
is_nothing Reason.Own = false
is_nothing (Reason.Node node cause) = false
is_nothing Reason.Profile = false

abbrev free : Explained → Bool
free e = eqb e.refusal 0 && is_nothing e.reason

is_free : (e : Explained) → free e ≡ true → e ≡ explained_by Reason.Nothing
is_free e h = λ i. record { refusal = eqb-true e.refusal 0 (and_l (eqb e.refusal 0) (is_nothing e.reason) h) i; reason = nothing e.reason (and_r (eqb e.refusal 0) (is_nothing e.reason) h) i }
  where
    nothing : (r : Reason) → is_nothing r ≡ true → r ≡ Reason.Nothing
    nothing Reason.Nothing q = refl
    nothing Reason.UnderWay q = no_way q
    nothing Reason.Owed q = no_way q
    nothing Reason.Own q = no_way q
    nothing (Reason.Node node cause) q = no_way q
    nothing Reason.Profile q = no_way q

-- free and accepted are one, state by state and phase by phase
module _ (n : ℕ) (m : Master) where
  in_open : (own some : Bool) (node named : ℕ) (cause : Cause)
      → free (explained_by (if_else own (if_else some (Reason.Node named cause) Reason.Nothing) Reason.Own))
      ≡ eqb (if_else own (if_else some (missing node m) (commands Command.SleepMessage (in_phase Phase.Sending m))) (refuse m 19)).refusal 0
  in_open true true node named cause = refl
  in_open true false node named cause = refl
  in_open false some node named cause = refl

  by_phase : (sleeps : Bool) (phase : Phase) → free (explained_by (reason_by sleeps n phase m)) ≡ eqb (sleep_ask_by n State.Normal sleeps phase m).refusal 0
  by_phase false phase = refl
  by_phase true Phase.Open = in_open m.permission (ltb (first_to (not_held m.holds) n) n) (first_to (not_held m.holds) n) _ _
  by_phase true Phase.Sending = refl
  by_phase true Phase.Withdrawn = refl
  by_phase true Phase.Closing = refl

  by_state : (sleeps : Bool) (s : State) → free (explain_by sleeps n s m) ≡ eqb (sleep_ask_by n s sleeps m.phase m).refusal 0
  by_state sleeps State.Normal = by_phase sleeps m.phase
  by_state sleeps State.Standby = refl
  by_state sleeps State.Sleep = refl

module _ (p : Plan) (m : Master) (ok : plan_refusal p ≡ 0) (right : in_range (sleeps p) p.nodecount p.times m ≡ true) where
  same : free (explain p m) ≡ eqb (master_step p m Event.SleepAsk).refusal 0
  same = rw (eq-eqb (plan_refusal p) 0 ok, right) (by_state p.nodecount m (sleeps p) m.state)

  pub nothing-accepted : explain p m ≡ explained_by Reason.Nothing → (master_step p m Event.SleepAsk).refusal ≡ 0
  nothing-accepted e = eqb-true (master_step p m Event.SleepAsk).refusal 0 (sym same ∙ ap free e)

  pub accepted-nothing : (master_step p m Event.SleepAsk).refusal ≡ 0 → explain p m ≡ explained_by Reason.Nothing
  accepted-nothing e = is_free (explain p m) (same ∙ ap (λ (r : ℕ). eqb r 0) e)
