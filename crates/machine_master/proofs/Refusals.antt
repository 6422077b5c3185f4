-- A refused step of the master changes nothing but by 13 and 14, commands nothing and reports nothing lost.
use Rattle.std.proofs.Common.{◌≡◌, ℕ, ◌+◌, Bool, true, false, eqb, ltb, refl, Option, Some, None}
use Rattle.base_lists.specs.Bounded.{first_to}
use Rattle.base_lists.proofs.Choices.{by_test}
use Rattle.machine_state.specs.declared.State.{State}
use Rattle.set_plan.specs.declared.Row.{Row}
use Rattle.set_plan.specs.declared.Times.{Times}
use Rattle.set_plan.specs.declared.Plan.{Plan}
use Rattle.set_plan.specs.Profile.{sleeps}
use Rattle.set_plan.specs.Rules.{plan_refusal}
use Rattle.set_plan.specs.Answering.{master_number, is_counted, accepts}
use Rattle.set_plan.specs.Find.{find_row}
use Rattle.machine_master.specs.declared.Phase.{Phase}
use Rattle.machine_master.specs.declared.Command.{Command}
use Rattle.machine_master.specs.declared.Answer.{Answer}
use Rattle.machine_master.specs.declared.Master.{Master}
use Rattle.machine_master.specs.declared.Event.{Event}
use Rattle.machine_master.specs.declared.Reply.{Reply}
use Rattle.machine_master.specs.Range.{in_range}
use Rattle.machine_master.specs.Ticks.{aged, tick_by}
use Rattle.machine_master.specs.Waking.{wake_up_by, permission_step}
use Rattle.machine_master.specs.Sleeping.{not_held, sleep_ask_by, send_result_by}
use Rattle.machine_master.specs.Answers.{row_step, answer_by}
use Rattle.machine_master.specs.Step.{event_right, act, master_step}

-- what a refusal leaves
pub record Nothing (r : Reply) : Type 0 where
  pub command : r.command ≡ Command.Nothing
  pub lost : r.lost ≡ 0

-- a reply to a step of m: done; or refused, m as it was unless by 13 or 14
pub record Plain (m : Master) (r : Reply) : Type 0 where
  pub nothing : (r.refusal ≡ 0 → ⊥) → Nothing r
  pub same : (r.refusal ≡ 0 → ⊥) → (r.refusal ≡ 13 → ⊥) → (r.refusal ≡ 14 → ⊥) → r.master ≡ m

module _ (m : Master) where
  done : (r : Reply) → r.refusal ≡ 0 → Plain m r
  done r e = record { nothing = λ h. absurd (h e); same = λ h a b. absurd (h e) }

  refused : (r : Reply) → r.command ≡ Command.Nothing → r.lost ≡ 0 → r.master ≡ m → Plain m r
  refused r c l e = record { nothing = λ h. record { command = c; lost = l }; same = λ h a b. e }

  tick_plain : (t : Times) (s : State) (q : Phase) (x : Master) → Plain m (tick_by t s q x)
  tick_plain t State.Sleep q x = done _ refl
  tick_plain t State.Standby q x = by_test (Plain m) (ltb (x.delay + 1) t.start) (λ l. done _ refl) (λ l. done _ refl)
  tick_plain t State.Normal Phase.Open x = done _ refl
  tick_plain t State.Normal Phase.Sending x = done _ refl
  tick_plain t State.Normal Phase.Withdrawn x = done _ refl
  tick_plain t State.Normal Phase.Closing x = by_test (Plain m) (ltb (x.delay + 1) t.stop) (λ l. done _ refl) (λ l. done _ refl)

  wake_up_plain : (s : State) → Plain m (wake_up_by s m)
  wake_up_plain State.Normal = done _ refl
  wake_up_plain State.Standby = done _ refl
  wake_up_plain State.Sleep = done _ refl

  permission_plain : (permitted : Bool) → Plain m (permission_step permitted m)
  permission_plain true = done _ refl
  permission_plain false = done _ refl

  sleep_ask_plain : (nodecount : ℕ) (s : State) (sleeps : Bool) (q : Phase) → Plain m (sleep_ask_by nodecount s sleeps q m)
  sleep_ask_plain nodecount State.Normal true Phase.Open =
      by_test (Plain m) m.permission
      (λ y. by_test (Plain m) (ltb (first_to (not_held m.holds) nodecount) nodecount) (λ l. refused _ refl refl refl) (λ l. done _ refl))
      (λ y. refused _ refl refl refl)
  sleep_ask_plain nodecount State.Normal true Phase.Sending = refused _ refl refl refl
  sleep_ask_plain nodecount State.Normal true Phase.Withdrawn = refused _ refl refl refl
  sleep_ask_plain nodecount State.Normal true Phase.Closing = refused _ refl refl refl
  sleep_ask_plain nodecount State.Normal false q = refused _ refl refl refl
  sleep_ask_plain nodecount State.Standby sleeps q = refused _ refl refl refl
  sleep_ask_plain nodecount State.Sleep sleeps q = refused _ refl refl refl

  send_result_plain : (sent : Bool) (s : State) (q : Phase) → Plain m (send_result_by sent s q m)
  send_result_plain sent State.Normal Phase.Open = refused _ refl refl refl
  send_result_plain true State.Normal Phase.Sending = done _ refl
  send_result_plain false State.Normal Phase.Sending = done _ refl
  send_result_plain sent State.Normal Phase.Withdrawn = done _ refl
  send_result_plain sent State.Normal Phase.Closing = refused _ refl refl refl
  send_result_plain sent State.Standby q = refused _ refl refl refl
  send_result_plain sent State.Sleep q = refused _ refl refl refl

  row_plain : (row : Row) (a : Answer) → Plain m (row_step row a m)
  row_plain row a =
      by_test (Plain m) (eqb row.publisher master_number) (λ y. refused _ refl refl refl)
      (λ y. by_test (Plain m) (eqb a.result 0)
      (λ z. by_test (Plain m) (accepts row a.length)
      (λ w. by_test (Plain m) (is_counted row) (λ c. done _ refl) (λ c. done _ refl))
      (λ w. record { nothing = λ h. record { command = refl; lost = refl }; same = λ h n13 n14. absurd (n14 refl) }))
      (λ z. record { nothing = λ h. record { command = refl; lost = refl }; same = λ h n13 n14. absurd (n13 refl) }))

  answer_plain : (s : State) (row : Option Row) (a : Answer) → Plain m (answer_by s row a m)
  answer_plain State.Normal None a = refused _ refl refl refl
  answer_plain State.Normal (Some row) a = row_plain row a
  answer_plain State.Standby row a = refused _ refl refl refl
  answer_plain State.Sleep row a = refused _ refl refl refl

  act_plain : (p : Plan) (e : Event) → Plain m (act p m e)
  act_plain p Event.Tick = tick_plain p.times m.state m.phase (aged p.times.window m)
  act_plain p (Event.Answer a) = answer_plain m.state (find_row p a.reqid) a
  act_plain p Event.Pulse = wake_up_plain m.state
  act_plain p Event.WakeAsk = wake_up_plain m.state
  act_plain p (Event.Permission permitted) = permission_plain permitted
  act_plain p Event.SleepAsk = sleep_ask_plain p.nodecount m.state (sleeps p) m.phase
  act_plain p (Event.SendResult sent) = send_result_plain sent m.state m.phase

  pub refused_plain : (p : Plan) (e : Event) → Plain m (master_step p m e)
  refused_plain p e =
      by_test (Plain m) (eqb (plan_refusal p) 0)
      (λ a. by_test (Plain m) (in_range (sleeps p) p.nodecount p.times m)
      (λ b. by_test (Plain m) (event_right e) (λ c. act_plain p e) (λ c. refused _ refl refl refl))
      (λ b. refused _ refl refl refl))
      (λ a. refused _ refl refl refl)
