-- W-205: "the memory has no bearing on any old answer".
use Rattle.std.proofs.Common.{◌≡◌, ℕ, ◌+◌, Bool, true, false, eqb, ltb, sym, refl, ap, ◌∙◌, Option, Some, None}
use Rattle.base_lists.specs.Bounded.{if_else, first_to}
use Rattle.machine_state.specs.declared.State.{State}
use Rattle.set_plan.specs.declared.Row.{Row}
use Rattle.set_plan.specs.declared.Times.{Times}
use Rattle.set_plan.specs.declared.Plan.{Plan}
use Rattle.set_plan.specs.Profile.{sleeps}
use Rattle.set_plan.specs.Rules.{plan_refusal}
use Rattle.set_plan.specs.Answering.{master_number, is_counted, accepts}
use Rattle.set_plan.specs.Find.{find_row}
use Rattle.machine_master.specs.declared.Phase.{Phase}
use Rattle.machine_master.specs.declared.Answer.{Answer}
use Rattle.machine_master.specs.declared.Master.{Master}
use Rattle.machine_master.specs.declared.Event.{Event}
use Rattle.machine_master.specs.declared.Reply.{Reply}
use Rattle.machine_master.specs.Changes.{no_causes, with_permission, with_causes, let_go, let_all_go, hold, with_cause, drop_all, call_back_by, call_back}
use Rattle.machine_master.specs.Range.{in_range}
use Rattle.machine_master.specs.Ticks.{aged, tick_by}
use Rattle.machine_master.specs.Waking.{wake_up_by, permission_step}
use Rattle.machine_master.specs.Sleeping.{not_held, sleep_ask_by, send_result_by}
use Rattle.machine_master.specs.Answers.{act_on_bits, count_stored, row_step, answer_by}
use Rattle.machine_master.specs.Step.{event_right, act, master_step}

-- a master but for its causes
abbrev pub bare : Master → Master
bare m = with_causes no_causes m

-- the same reply but for the causes of its master
pub record SameButCauses (r s : Reply) : Type 0 where
  pub master : bare r.master ≡ bare s.master
  pub command : r.command ≡ s.command
  pub refusal : r.refusal ≡ s.refusal
  pub node : r.node ≡ s.node
  pub lost : r.lost ≡ s.lost

-- a reply with another master
alike : (r s : Reply) → bare r.master ≡ bare s.master → r.command ≡ s.command → r.refusal ≡ s.refusal → r.node ≡ s.node → r.lost ≡ s.lost → SameButCauses r s
alike r s m c f n l = record { master = m; command = c; refusal = f; node = n; lost = l }

turned : (r s : Reply) → SameButCauses r s → SameButCauses s r
turned r s h = record { master = sym h.master; command = sym h.command; refusal = sym h.refusal; node = sym h.node; lost = sym h.lost }

chained : (r s u : Reply) → SameButCauses r s → SameButCauses s u → SameButCauses r u
chained r s u h k =
    record { master = h.master ∙ k.master; command = h.command ∙ k.command; refusal = h.refusal ∙ k.refusal; node = h.node ∙ k.node; lost = h.lost ∙ k.lost }

-- a choice by one test on both sides
both : {A : Type 0} (P : A → A → Type 0) (b : Bool) {x y u v : A} → P x u → P y v → P (if_else b x y) (if_else b u v)
both P true e h = e
both P false e h = h

-- each event does to a master what it does to the bare one, but for causes
module _ (m : Master) where
  abbrev Alike : Master → Master → Type 0
  Alike x y = bare x ≡ bare y

  back : (x : Master) → bare (call_back x) ≡ bare (call_back (bare x))
  back x = go x.phase
    where
      go : (q : Phase) → bare (call_back_by q x) ≡ bare (call_back_by q (bare x))
      go Phase.Open = refl
      go Phase.Sending = refl
      go Phase.Withdrawn = refl
      go Phase.Closing = refl

  backs : (x y : Master) → bare x ≡ bare y → bare (call_back x) ≡ bare (call_back y)
  backs x y e = back x ∙ ap (λ (z : Master). bare (call_back z)) e ∙ sym (back y)

  tick_alike : (t : Times) (s : State) (q : Phase) → SameButCauses (tick_by t s q (aged t.window m)) (tick_by t s q (aged t.window (bare m)))
  tick_alike t State.Sleep q = alike _ _ refl refl refl refl refl
  tick_alike t State.Standby q = both SameButCauses (ltb (m.delay + 1) t.start) (alike _ _ refl refl refl refl refl) (alike _ _ refl refl refl refl refl)
  tick_alike t State.Normal Phase.Open = alike _ _ refl refl refl refl refl
  tick_alike t State.Normal Phase.Sending = alike _ _ refl refl refl refl refl
  tick_alike t State.Normal Phase.Withdrawn = alike _ _ refl refl refl refl refl
  tick_alike t State.Normal Phase.Closing = both SameButCauses (ltb (m.delay + 1) t.stop) (alike _ _ refl refl refl refl refl) (alike _ _ refl refl refl refl refl)

  wake_up_alike : (s : State) → SameButCauses (wake_up_by s m) (wake_up_by s (bare m))
  wake_up_alike State.Normal = alike _ _ (backs (drop_all m) (drop_all (bare m)) refl) refl refl refl refl
  wake_up_alike State.Standby = alike _ _ refl refl refl refl refl
  wake_up_alike State.Sleep = alike _ _ refl refl refl refl refl

  permission_alike : (permitted : Bool) → SameButCauses (permission_step permitted m) (permission_step permitted (bare m))
  permission_alike true = alike _ _ refl refl refl refl refl
  permission_alike false = alike _ _ (backs (with_permission false m) (with_permission false (bare m)) refl) refl refl refl refl

  sleep_ask_alike : (nodecount : ℕ) (s : State) (sleeps : Bool) (q : Phase) → SameButCauses (sleep_ask_by nodecount s sleeps q m) (sleep_ask_by nodecount s sleeps q (bare m))
  sleep_ask_alike nodecount State.Normal true Phase.Open =
      both SameButCauses m.permission
      (both SameButCauses (ltb (first_to (not_held m.holds) nodecount) nodecount) (alike _ _ refl refl refl refl refl) (alike _ _ refl refl refl refl refl))
      (alike _ _ refl refl refl refl refl)
  sleep_ask_alike nodecount State.Normal true Phase.Sending = alike _ _ refl refl refl refl refl
  sleep_ask_alike nodecount State.Normal true Phase.Withdrawn = alike _ _ refl refl refl refl refl
  sleep_ask_alike nodecount State.Normal true Phase.Closing = alike _ _ refl refl refl refl refl
  sleep_ask_alike nodecount State.Normal false q = alike _ _ refl refl refl refl refl
  sleep_ask_alike nodecount State.Standby sleeps q = alike _ _ refl refl refl refl refl
  sleep_ask_alike nodecount State.Sleep sleeps q = alike _ _ refl refl refl refl refl

  send_result_alike : (sent : Bool) (s : State) (q : Phase) → SameButCauses (send_result_by sent s q m) (send_result_by sent s q (bare m))
  send_result_alike sent State.Normal Phase.Open = alike _ _ refl refl refl refl refl
  send_result_alike true State.Normal Phase.Sending = alike _ _ refl refl refl refl refl
  send_result_alike false State.Normal Phase.Sending = alike _ _ refl refl refl refl refl
  send_result_alike sent State.Normal Phase.Withdrawn = alike _ _ refl refl refl refl refl
  send_result_alike sent State.Normal Phase.Closing = alike _ _ refl refl refl refl refl
  send_result_alike sent State.Standby q = alike _ _ refl refl refl refl refl
  send_result_alike sent State.Sleep q = alike _ _ refl refl refl refl refl

  let_go_alike : (cause node : ℕ) (x y : Master) → bare x ≡ bare y → bare (call_back (let_go node (with_cause cause node x))) ≡ bare (call_back (let_go node (with_cause cause node y)))
  let_go_alike cause node x y e = backs (let_go node (with_cause cause node x)) (let_go node (with_cause cause node y)) (ap (let_go node) e)

  bits_alike : (k : ℕ) (permission wake : Bool) (x y : Master) → bare x ≡ bare y → bare (act_on_bits k permission wake x) ≡ bare (act_on_bits k permission wake y)
  bits_alike k permission wake x y e =
      both Alike wake (backs (with_cause _ k (drop_all x)) (with_cause _ k (drop_all y)) (ap let_all_go e))
      (both Alike permission (ap (hold k) e) (let_go_alike _ k x y e))

  row_alike : (row : Row) (a : Answer) → SameButCauses (row_step row a m) (row_step row a (bare m))
  row_alike row a =
      both SameButCauses (eqb row.publisher master_number) (alike _ _ refl refl refl refl refl)
      (both SameButCauses (eqb a.result 0)
      (both SameButCauses (accepts row a.length)
      (both SameButCauses (is_counted row)
      (alike _ _ (bits_alike row.publisher a.permission a.wake (count_stored row.reqid a.count m) (count_stored row.reqid a.count (bare m)) refl) refl refl refl refl)
      (alike _ _ (bits_alike row.publisher a.permission a.wake m (bare m) refl) refl refl refl refl))
      (alike _ _ (let_go_alike _ row.publisher m (bare m) refl) refl refl refl refl))
      (alike _ _ (let_go_alike _ row.publisher m (bare m) refl) refl refl refl refl))

  answer_alike : (s : State) (row : Option Row) (a : Answer) → SameButCauses (answer_by s row a m) (answer_by s row a (bare m))
  answer_alike State.Normal None a = alike _ _ refl refl refl refl refl
  answer_alike State.Normal (Some row) a = row_alike row a
  answer_alike State.Standby row a = alike _ _ refl refl refl refl refl
  answer_alike State.Sleep row a = alike _ _ refl refl refl refl refl

  act_alike : (p : Plan) (e : Event) → SameButCauses (act p m e) (act p (bare m) e)
  act_alike p Event.Tick = tick_alike p.times m.state m.phase
  act_alike p (Event.Answer a) = answer_alike m.state (find_row p a.reqid) a
  act_alike p Event.Pulse = wake_up_alike m.state
  act_alike p Event.WakeAsk = wake_up_alike m.state
  act_alike p (Event.Permission permitted) = permission_alike permitted
  act_alike p Event.SleepAsk = sleep_ask_alike p.nodecount m.state (sleeps p) m.phase
  act_alike p (Event.SendResult sent) = send_result_alike sent m.state m.phase

-- two masters in range that differ in causes alone: each event gives the same reply, and masters that differ in causes alone
pub no_bearing : (p : Plan) (e : Event) (m n : Master) → in_range (sleeps p) p.nodecount p.times m ≡ true
    → in_range (sleeps p) p.nodecount p.times n ≡ true
    → bare m ≡ bare n → SameButCauses (master_step p m e) (master_step p n e)
no_bearing p e m n r s same =
    both SameButCauses (eqb (plan_refusal p) 0)
    (rw (r, s) (both SameButCauses (event_right e) acts (alike _ _ same refl refl refl refl)))
    (alike _ _ same refl refl refl refl)
  where
    acts : SameButCauses (act p m e) (act p n e)
    acts =
        chained (act p m e) (act p (bare m) e) (act p n e) (act_alike m p e)
        (rw same (turned (act p n e) (act p (bare n) e) (act_alike n p e)))
