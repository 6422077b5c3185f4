-- A step of the master keeps the places of its permissions, their causes and its sequence counts.
use Rattle.std.proofs.Common.{◌≡◌, ℕ, ◌+◌, Bool, true, false, eqb, ltb, length, refl, ◌∙◌, length-set, Option, Some, None}
use Rattle.base_lists.specs.Bounded.{first_to}
use Rattle.base_lists.proofs.Choices.{by_test}
use Rattle.base_lists.proofs.Tables.{length-tab}
use Rattle.machine_state.specs.declared.State.{State}
use Rattle.machine_state.specs.State.{is_normal}
use Rattle.set_plan.specs.declared.Row.{Row}
use Rattle.set_plan.specs.declared.Times.{Times}
use Rattle.set_plan.specs.declared.Plan.{Plan}
use Rattle.set_plan.specs.Limits.{max_nodes, reqids}
use Rattle.set_plan.specs.Profile.{sleeps}
use Rattle.set_plan.specs.Rules.{plan_refusal}
use Rattle.set_plan.specs.Answering.{master_number, is_counted, accepts}
use Rattle.set_plan.specs.Find.{find_row}
use Rattle.machine_master.specs.declared.Phase.{Phase}
use Rattle.machine_master.specs.declared.Answer.{Answer}
use Rattle.machine_master.specs.declared.Master.{Master}
use Rattle.machine_master.specs.declared.Event.{Event}
use Rattle.machine_master.specs.declared.Reply.{Reply}
use Rattle.machine_master.specs.Changes.{woken_at, all_woken, let_go, with_cause, drop_all, call_back_by}
use Rattle.machine_master.specs.Range.{in_range}
use Rattle.machine_master.specs.Ticks.{all_older, older_at, aged_out_at, all_aged_out, aged, tick_by}
use Rattle.machine_master.specs.Waking.{wake_up_by, permission_step}
use Rattle.machine_master.specs.Sleeping.{not_held, sleep_ask_by, send_result_by}
use Rattle.machine_master.specs.Answers.{act_on_bits, count_stored, row_step, answer_by}
use Rattle.machine_master.specs.Step.{event_right, act, master_step}

pub record Placed (m : Master) : Type 0 where
  pub holds : length m.holds ≡ max_nodes
  pub causes : length m.causes ≡ max_nodes
  pub counts : length m.counts ≡ reqids

abbrev After : Reply → Type 0
After r = Placed r.master

called_back : (q : Phase) (m : Master) → Placed m → Placed (call_back_by q m)
called_back Phase.Open m h = h
called_back Phase.Sending m h = record { holds = h.holds; causes = h.causes; counts = h.counts }
called_back Phase.Withdrawn m h = h
called_back Phase.Closing m h = record { holds = h.holds; causes = h.causes; counts = h.counts }

let_go_lem : (cause node : ℕ) (m : Master) → Placed m → Placed (let_go node (with_cause cause node m))
let_go_lem cause node m h = record { holds = length-set m.holds node _ ∙ h.holds; causes = length-set m.causes node _ ∙ h.causes; counts = h.counts }

all_dropped : (m : Master) → Placed m → Placed (drop_all m)
unfolding all_woken
all_dropped m h = record { holds = refl; causes = length-tab max_nodes (woken_at m.holds m.causes); counts = h.counts }

with_cause_lem : (cause node : ℕ) (m : Master) → Placed m → Placed (with_cause cause node m)
with_cause_lem cause node m h = record { holds = h.holds; causes = length-set m.causes node _ ∙ h.causes; counts = h.counts }

bits_placed : (publisher : ℕ) (permission wake : Bool) (m : Master) → Placed m → Placed (act_on_bits publisher permission wake m)
bits_placed publisher permission wake m h =
    by_test Placed wake (λ w. called_back m.phase (with_cause _ publisher (drop_all m)) (with_cause_lem _ publisher (drop_all m) (all_dropped m h)))
    (λ w. by_test Placed permission
    (λ p. record { holds = length-set m.holds publisher _ ∙ h.holds; causes = length-set m.causes publisher _ ∙ h.causes; counts = h.counts })
    (λ p. called_back m.phase (let_go publisher (with_cause _ publisher m)) (let_go_lem _ publisher m h)))

tick_placed : (t : Times) (s : State) (q : Phase) (x : Master) → Placed x → After (tick_by t s q x)
tick_placed t State.Sleep q x h = h
tick_placed t State.Standby q x h =
    by_test After (ltb (x.delay + 1) t.start) (λ l. record { holds = h.holds; causes = h.causes; counts = h.counts }) (λ l. record { holds = h.holds; causes = refl; counts = refl })
tick_placed t State.Normal Phase.Open x h = h
tick_placed t State.Normal Phase.Sending x h = h
tick_placed t State.Normal Phase.Withdrawn x h = h
tick_placed t State.Normal Phase.Closing x h =
    by_test After (ltb (x.delay + 1) t.stop) (λ l. record { holds = h.holds; causes = h.causes; counts = h.counts }) (λ l. record { holds = refl; causes = refl; counts = h.counts })

module _ (m : Master) (h : Placed m) where
  aged_placed : (window : ℕ) → Placed (aged window m)
  unfolding all_older all_aged_out
  aged_placed window =
      record {
        holds = length-tab max_nodes (older_at window m.holds);
        causes = length-tab max_nodes (aged_out_at (is_normal m.state) window m.holds m.causes);
        counts = h.counts;
      }

  wake_up_placed : (s : State) → After (wake_up_by s m)
  wake_up_placed State.Normal = called_back m.phase (drop_all m) (all_dropped m h)
  wake_up_placed State.Standby = h
  wake_up_placed State.Sleep = record { holds = h.holds; causes = h.causes; counts = h.counts }

  permission_placed : (permitted : Bool) → After (permission_step permitted m)
  permission_placed true = record { holds = h.holds; causes = h.causes; counts = h.counts }
  permission_placed false = called_back m.phase _ (record { holds = h.holds; causes = h.causes; counts = h.counts })

  sleep_ask_placed : (nodecount : ℕ) (s : State) (sleeps : Bool) (q : Phase) → After (sleep_ask_by nodecount s sleeps q m)
  sleep_ask_placed nodecount State.Normal true Phase.Open =
      by_test After m.permission
      (λ y. by_test After (ltb (first_to (not_held m.holds) nodecount) nodecount) (λ l. h) (λ l. record { holds = h.holds; causes = h.causes; counts = h.counts }))
      (λ y. h)
  sleep_ask_placed nodecount State.Normal true Phase.Sending = h
  sleep_ask_placed nodecount State.Normal true Phase.Withdrawn = h
  sleep_ask_placed nodecount State.Normal true Phase.Closing = h
  sleep_ask_placed nodecount State.Normal false q = h
  sleep_ask_placed nodecount State.Standby sleeps q = h
  sleep_ask_placed nodecount State.Sleep sleeps q = h

  send_result_placed : (sent : Bool) (s : State) (q : Phase) → After (send_result_by sent s q m)
  send_result_placed sent State.Normal Phase.Open = h
  send_result_placed true State.Normal Phase.Sending = record { holds = h.holds; causes = h.causes; counts = h.counts }
  send_result_placed false State.Normal Phase.Sending = record { holds = h.holds; causes = h.causes; counts = h.counts }
  send_result_placed sent State.Normal Phase.Withdrawn = record { holds = h.holds; causes = h.causes; counts = h.counts }
  send_result_placed sent State.Normal Phase.Closing = h
  send_result_placed sent State.Standby q = h
  send_result_placed sent State.Sleep q = h

  damaged_placed : (cause publisher : ℕ) → Placed (call_back_by m.phase (let_go publisher (with_cause cause publisher m)))
  damaged_placed cause publisher = called_back m.phase (let_go publisher (with_cause cause publisher m)) (let_go_lem cause publisher m h)

  row_placed : (row : Row) (a : Answer) → After (row_step row a m)
  row_placed row a =
      by_test After (eqb row.publisher master_number) (λ y. h)
      (λ y. by_test After (eqb a.result 0)
      (λ z. by_test After (accepts row a.length)
      (λ w. by_test After (is_counted row)
      (λ c. bits_placed row.publisher a.permission a.wake (count_stored row.reqid a.count m) (record { holds = h.holds; causes = h.causes; counts = length-set m.counts row.reqid _ ∙ h.counts }))
      (λ c. bits_placed row.publisher a.permission a.wake m h))
      (λ w. damaged_placed _ row.publisher))
      (λ z. damaged_placed _ row.publisher))

  answer_placed : (s : State) (row : Option Row) (a : Answer) → After (answer_by s row a m)
  answer_placed State.Normal None a = h
  answer_placed State.Normal (Some row) a = row_placed row a
  answer_placed State.Standby row a = h
  answer_placed State.Sleep row a = h

  act_placed : (p : Plan) (e : Event) → After (act p m e)
  act_placed p Event.Tick = tick_placed p.times m.state m.phase (aged p.times.window m) (aged_placed p.times.window)
  act_placed p (Event.Answer a) = answer_placed m.state (find_row p a.reqid) a
  act_placed p Event.Pulse = wake_up_placed m.state
  act_placed p Event.WakeAsk = wake_up_placed m.state
  act_placed p (Event.Permission permitted) = permission_placed permitted
  act_placed p Event.SleepAsk = sleep_ask_placed p.nodecount m.state (sleeps p) m.phase
  act_placed p (Event.SendResult sent) = send_result_placed sent m.state m.phase

  pub places_kept : (p : Plan) (e : Event) → Placed (master_step p m e).master
  places_kept p e =
      by_test After (eqb (plan_refusal p) 0)
      (λ a. by_test After (in_range (sleeps p) p.nodecount p.times m)
      (λ b. by_test After (event_right e) (λ c. act_placed p e) (λ c. h))
      (λ b. h))
      (λ a. h)
