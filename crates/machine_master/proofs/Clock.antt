-- The commands switch the clock so that it is on exactly in Normal, and off only at the end of Closing.
use Rattle.std.proofs.Common.{◌≡◌, ℕ, ◌+◌, Bool, true, false, eqb, ltb, sym, refl, ap, ◌∙◌, Option, Some, None}
use Rattle.base_lists.specs.Bounded.{first_to}
use Rattle.base_lists.proofs.Choices.{by_test, no_way}
use Rattle.machine_state.specs.declared.State.{State}
use Rattle.machine_state.specs.State.{is_normal}
use Rattle.set_plan.specs.declared.Row.{Row}
use Rattle.set_plan.specs.declared.Times.{Times}
use Rattle.set_plan.specs.declared.Plan.{Plan}
use Rattle.set_plan.specs.Profile.{sleeps}
use Rattle.set_plan.specs.Rules.{plan_refusal}
use Rattle.set_plan.specs.Answering.{master_number, is_counted, accepts}
use Rattle.set_plan.specs.Find.{find_row}
use Rattle.machine_master.specs.declared.Phase.{Phase}
use Rattle.machine_master.specs.declared.Answer.{Answer}
use Rattle.machine_master.specs.declared.Master.{Master}
use Rattle.machine_master.specs.declared.Event.{Event}
use Rattle.machine_master.specs.declared.Reply.{Reply}
use Rattle.machine_master.specs.Changes.{with_permission, let_go, with_cause, drop_all, call_back_by, call_back}
use Rattle.machine_master.specs.Clock.{clock_on, switched, is_off, closing}
use Rattle.machine_master.specs.Range.{in_range}
use Rattle.machine_master.specs.Ticks.{aged, tick_by}
use Rattle.machine_master.specs.Waking.{wake_up_by, permission_step}
use Rattle.machine_master.specs.Sleeping.{not_held, sleep_ask_by, send_result_by}
use Rattle.machine_master.specs.Answers.{act_on_bits, count_stored, row_step, answer_by}
use Rattle.machine_master.specs.Step.{event_right, act, master_step}

pub call_back_state : (m : Master) → (call_back m).state ≡ m.state
call_back_state m = go m.phase
  where
    go : (q : Phase) → (call_back_by q m).state ≡ m.state
    go Phase.Open = refl
    go Phase.Sending = refl
    go Phase.Withdrawn = refl
    go Phase.Closing = refl

pub bits_state : (k : ℕ) (permission wake : Bool) (m : Master) → (act_on_bits k permission wake m).state ≡ m.state
bits_state k permission wake m =
    by_test (λ (x : Master). x.state ≡ m.state) wake
    (λ w. call_back_state (with_cause _ k (drop_all m)))
    (λ w. by_test (λ (x : Master). x.state ≡ m.state) permission (λ y. refl) (λ y. call_back_state (let_go k (with_cause _ k m))))

-- a reply to a step of m
record Clocked (m : Master) (r : Reply) : Type 0 where
  pub follows : switched r.command (clock_on m) ≡ clock_on r.master
  pub stops : is_off r.command ≡ true → closing m ≡ true

module _ (m : Master) where
  -- no command to the clock, the state as it was
  still : (r : Reply) → switched r.command (clock_on m) ≡ clock_on m → is_off r.command ≡ false → r.master.state ≡ m.state → Clocked m r
  still r c n e = record { follows = c ∙ sym (ap is_normal e); stops = λ h. no_way (sym n ∙ h) }

  tick_clocked : (t : Times) (x : Master) → x.state ≡ m.state → Clocked m (tick_by t m.state m.phase x)
  tick_clocked t x e = go m.state refl m.phase refl
    where
      go : (s : State) → m.state ≡ s → (q : Phase) → m.phase ≡ q → Clocked m (tick_by t s q x)
      go State.Sleep f q w = still _ refl refl e
      go State.Standby f q w =
          by_test (Clocked m) (ltb (x.delay + 1) t.start) (λ l. still _ refl refl e) (λ l. record { follows = refl; stops = λ h. no_way h })
      go State.Normal f Phase.Open w = still _ refl refl e
      go State.Normal f Phase.Sending w = still _ refl refl e
      go State.Normal f Phase.Withdrawn w = still _ refl refl e
      go State.Normal f Phase.Closing w =
          by_test (Clocked m) (ltb (x.delay + 1) t.stop) (λ l. still _ refl refl e)
          (λ l. record { follows = refl; stops = λ h. rw (f, w) })

  wake_up_clocked : Clocked m (wake_up_by m.state m)
  wake_up_clocked = go m.state refl
    where
      go : (s : State) → m.state ≡ s → Clocked m (wake_up_by s m)
      go State.Normal e = still _ refl refl (call_back_state (drop_all m))
      go State.Standby e = still _ refl refl refl
      go State.Sleep e = record { follows = ap is_normal e; stops = λ h. no_way h }

  permission_clocked : (permitted : Bool) → Clocked m (permission_step permitted m)
  permission_clocked true = still _ refl refl refl
  permission_clocked false = still _ refl refl (call_back_state (with_permission false m))

  sleep_ask_clocked : (nodecount : ℕ) (s : State) (sleeps : Bool) (q : Phase) → Clocked m (sleep_ask_by nodecount s sleeps q m)
  sleep_ask_clocked nodecount State.Normal true Phase.Open =
      by_test (Clocked m) m.permission
      (λ y. by_test (Clocked m) (ltb (first_to (not_held m.holds) nodecount) nodecount) (λ l. still _ refl refl refl) (λ l. still _ refl refl refl))
      (λ y. still _ refl refl refl)
  sleep_ask_clocked nodecount State.Normal true Phase.Sending = still _ refl refl refl
  sleep_ask_clocked nodecount State.Normal true Phase.Withdrawn = still _ refl refl refl
  sleep_ask_clocked nodecount State.Normal true Phase.Closing = still _ refl refl refl
  sleep_ask_clocked nodecount State.Normal false q = still _ refl refl refl
  sleep_ask_clocked nodecount State.Standby sleeps q = still _ refl refl refl
  sleep_ask_clocked nodecount State.Sleep sleeps q = still _ refl refl refl

  send_result_clocked : (sent : Bool) (s : State) (q : Phase) → Clocked m (send_result_by sent s q m)
  send_result_clocked sent State.Normal Phase.Open = still _ refl refl refl
  send_result_clocked true State.Normal Phase.Sending = still _ refl refl refl
  send_result_clocked false State.Normal Phase.Sending = still _ refl refl refl
  send_result_clocked sent State.Normal Phase.Withdrawn = still _ refl refl refl
  send_result_clocked sent State.Normal Phase.Closing = still _ refl refl refl
  send_result_clocked sent State.Standby q = still _ refl refl refl
  send_result_clocked sent State.Sleep q = still _ refl refl refl

  row_clocked : (row : Row) (a : Answer) → Clocked m (row_step row a m)
  row_clocked row a =
      by_test (Clocked m) (eqb row.publisher master_number) (λ y. still _ refl refl refl)
      (λ y. by_test (Clocked m) (eqb a.result 0)
      (λ z. by_test (Clocked m) (accepts row a.length)
      (λ w. by_test (Clocked m) (is_counted row)
      (λ c. still _ refl refl (bits_state row.publisher a.permission a.wake (count_stored row.reqid a.count m)))
      (λ c. still _ refl refl (bits_state row.publisher a.permission a.wake m)))
      (λ w. still _ refl refl (call_back_state (let_go row.publisher (with_cause _ row.publisher m)))))
      (λ z. still _ refl refl (call_back_state (let_go row.publisher (with_cause _ row.publisher m)))))

  answer_clocked : (s : State) (row : Option Row) (a : Answer) → Clocked m (answer_by s row a m)
  answer_clocked State.Normal None a = still _ refl refl refl
  answer_clocked State.Normal (Some row) a = row_clocked row a
  answer_clocked State.Standby row a = still _ refl refl refl
  answer_clocked State.Sleep row a = still _ refl refl refl

  act_clocked : (p : Plan) (e : Event) → Clocked m (act p m e)
  act_clocked p Event.Tick = tick_clocked p.times (aged p.times.window m) refl
  act_clocked p (Event.Answer a) = answer_clocked m.state (find_row p a.reqid) a
  act_clocked p Event.Pulse = wake_up_clocked
  act_clocked p Event.WakeAsk = wake_up_clocked
  act_clocked p (Event.Permission permitted) = permission_clocked permitted
  act_clocked p Event.SleepAsk = sleep_ask_clocked p.nodecount m.state (sleeps p) m.phase
  act_clocked p (Event.SendResult sent) = send_result_clocked sent m.state m.phase

  step_clocked : (p : Plan) (e : Event) → Clocked m (master_step p m e)
  step_clocked p e =
      by_test (Clocked m) (eqb (plan_refusal p) 0)
      (λ a. by_test (Clocked m) (in_range (sleeps p) p.nodecount p.times m)
      (λ b. by_test (Clocked m) (event_right e) (λ c. act_clocked p e) (λ c. still _ refl refl refl))
      (λ b. still _ refl refl refl))
      (λ a. still _ refl refl refl)

  -- the clock that the commands switch, on before exactly in Normal, is so after every step
  pub clock_follows : (p : Plan) (e : Event) → switched (master_step p m e).command (clock_on m) ≡ clock_on (master_step p m e).master
  clock_follows p e = (step_clocked p e).follows

  -- the clock is stopped only in Closing
  pub stopped_closing : (p : Plan) (e : Event) → is_off (master_step p m e).command ≡ true → closing m ≡ true
  stopped_closing p e = (step_clocked p e).stops
