-- W-206: a master that never sleeps stays in Normal, its phase Open.
use Rattle.std.proofs.Common.{◌≡◌, ℕ, Bool, true, false, eqb, List, set, sym, refl, subst, Option, Some, None}
use Rattle.base_lists.proofs.Choices.{by_test, no_way}
use Rattle.machine_state.specs.declared.State.{State}
use Rattle.set_plan.specs.declared.Row.{Row}
use Rattle.set_plan.specs.declared.Times.{Times}
use Rattle.set_plan.specs.declared.Plan.{Plan}
use Rattle.set_plan.specs.Answering.{master_number, is_counted, accepts}
use Rattle.set_plan.specs.Profile.{sleeps}
use Rattle.set_plan.specs.Rules.{plan_refusal}
use Rattle.machine_master.specs.declared.Phase.{Phase}
use Rattle.machine_master.specs.declared.Answer.{Answer}
use Rattle.machine_master.specs.declared.Command.{Command}
use Rattle.machine_master.specs.declared.Master.{Master}
use Rattle.machine_master.specs.declared.Event.{Event}
use Rattle.machine_master.specs.declared.Reply.{Reply}
use Rattle.machine_master.specs.Changes.{with_counts}
use Rattle.machine_master.specs.Range.{is_awake, in_range}
use Rattle.machine_master.specs.Ticks.{tick_step}
use Rattle.machine_master.specs.Waking.{wake_up_step, permission_step}
use Rattle.machine_master.specs.Sleeping.{sleep_ask_step, send_result_step}
use Rattle.machine_master.specs.Answers.{act_on_bits, row_step, answer_step}
use Rattle.machine_master.specs.Step.{event_right, row_asked, act_with, act, master_step}

abbrev pub Awake : Master → Type 0
Awake m = is_awake m.state m.phase ≡ true

-- m itself where these are its own state and phase
abbrev pub split : Master → State → Phase → Master
split m state phase =
    record { state = state; phase = phase; permission = m.permission; holds = m.holds; causes = m.causes; counts = m.counts; delay = m.delay; ticks = m.ticks }

-- it stays so, and commands nothing
abbrev pub Stays : Reply → Type 0
Stays r = Awake r.master × (r.command ≡ Command.Nothing)

-- what holds in Normal and Open holds where a master is awake
at_awake : (P : Master → Type 0) (m : Master) → P (split m State.Normal Phase.Open) → Awake m → P m
at_awake P m h a = go m.state m.phase a
  where
    go : (s : State) (q : Phase) → is_awake s q ≡ true → P (split m s q)
    go State.Normal Phase.Open a = h
    go State.Normal Phase.Sending a = no_way a
    go State.Normal Phase.Withdrawn a = no_way a
    go State.Normal Phase.Closing a = no_way a
    go State.Standby q a = no_way a
    go State.Sleep q a = no_way a

module _ (m : Master) where
  pub awake_normal : Awake m → m.state ≡ State.Normal
  awake_normal = at_awake (λ (x : Master). x.state ≡ State.Normal) m refl

  pub awake_tick_lem : (t : Times) → Awake m → Stays (tick_step t m)
  awake_tick_lem t = at_awake (λ (x : Master). Stays (tick_step t x)) m (refl, refl)

  pub awake_wake_up : Awake m → Stays (wake_up_step m)
  awake_wake_up = at_awake (λ (x : Master). Stays (wake_up_step x)) m (refl, refl)

  pub awake_permission : (permitted : Bool) → Awake m → Stays (permission_step permitted m)
  awake_permission true = at_awake (λ (x : Master). Stays (permission_step true x)) m (refl, refl)
  awake_permission false = at_awake (λ (x : Master). Stays (permission_step false x)) m (refl, refl)

  pub awake_sleep_ask : (nodecount : ℕ) → Awake m → Stays (sleep_ask_step false nodecount m)
  awake_sleep_ask nodecount = at_awake (λ (x : Master). Stays (sleep_ask_step false nodecount x)) m (refl, refl)

  -- no sleep message is under way, so its result is refused
  pub awake_send_result : (sent : Bool) → Awake m → Stays (send_result_step sent m) × ((send_result_step sent m).refusal ≡ 17)
  awake_send_result sent = at_awake (λ (x : Master). Stays (send_result_step sent x) × ((send_result_step sent x).refusal ≡ 17)) m ((refl, refl), refl)

  abbrev here : Master
  here = split m State.Normal Phase.Open

  bits_awake : (publisher : ℕ) (permission wake : Bool) (counts : List ℕ) → Awake (act_on_bits publisher permission wake (with_counts counts here))
  bits_awake publisher permission wake counts = by_test Awake wake (λ w. refl) (λ w. by_test Awake permission (λ y. refl) (λ y. refl))

  row_awake : (row : Row) (a : Answer) → Stays (row_step row a here)
  row_awake row a =
      by_test Stays (eqb row.publisher master_number) (λ y. (refl, refl))
      (λ y. by_test Stays (eqb a.result 0)
      (λ z. by_test Stays (accepts row a.length)
      (λ w. by_test Stays (is_counted row)
      (λ c. (bits_awake row.publisher a.permission a.wake (set m.counts row.reqid a.count), refl))
      (λ c. (bits_awake row.publisher a.permission a.wake m.counts, refl)))
      (λ w. (refl, refl)))
      (λ z. (refl, refl)))

  answer-awake : (row : Option Row) (a : Answer) → Stays (answer_step row a here)
  answer-awake None a = (refl, refl)
  answer-awake (Some row) a = row_awake row a

  pub awake-answer : (row : Option Row) (a : Answer) → Awake m → Stays (answer_step row a m)
  awake-answer row a = at_awake (λ (x : Master). Stays (answer_step row a x)) m (answer-awake row a)

-- so every step leaves it so
abbrev Left : Reply → Type 0
Left r = Awake r.master

act-awake : (nodecount : ℕ) (t : Times) (row : Option Row) (m : Master) (e : Event) → Awake m → Left (act_with false nodecount t row m e)
act-awake nodecount t row m Event.Tick a = (awake_tick_lem m t a).0
act-awake nodecount t row m (Event.Answer x) a = (awake-answer m row x a).0
act-awake nodecount t row m Event.Pulse a = (awake_wake_up m a).0
act-awake nodecount t row m Event.WakeAsk a = (awake_wake_up m a).0
act-awake nodecount t row m (Event.Permission permitted) a = (awake_permission m permitted a).0
act-awake nodecount t row m Event.SleepAsk a = (awake_sleep_ask m nodecount a).0
act-awake nodecount t row m (Event.SendResult sent) a = (awake_send_result m sent a).0.0

pub step_awake : (p : Plan) (m : Master) (e : Event) → sleeps p ≡ false → Awake m → Left (master_step p m e)
step_awake p m e q a =
    by_test Left (eqb (plan_refusal p) 0)
    (λ h. by_test Left (in_range (sleeps p) p.nodecount p.times m) (λ h. by_test Left (event_right e) (λ h. acted) (λ h. a)) (λ h. a))
    (λ h. a)
  where
    acted : Left (act p m e)
    acted = subst (λ (s : Bool). Left (act_with s p.nodecount p.times (row_asked p e) m e)) (sym q) (act-awake p.nodecount p.times (row_asked p e) m e a)
