-- A master in a run: what its permission, each permission it holds and a sleep message under way stand for, kept by each step.
use Rattle.std.proofs.Common.{◌≡◌, ℕ, suc, ◌+◌, ◌<◌, ◌≤◌, Bool, true, false, ◌&&◌, eqb, ltb, List, length, get_or, set, sym, refl, ap, ◌∙◌, arith, get_or-set_other, get_or-set_same, ltb-false, ltb-true, eqb-true}
use lib.ListN.{get_or-replicate, get_or-eq_default}
use lib.Seq.{set_out}
use native.Mathlib.Decide.{dec_lt, ℕ_discrete}
use borrow.Author.Tests.{not-false}
use Rattle.base_lists.specs.Bounded.{first_to}
use Rattle.base_lists.proofs.Choices.{by_test, no_way}
use Rattle.base_lists.proofs.First.{first_past}
use Rattle.base_lists.proofs.Tables.{get_or-tab}
use Rattle.machine_state.specs.declared.State.{State}
use Rattle.machine_state.specs.State.{is_normal}
use Rattle.set_plan.specs.declared.Row.{Row}
use Rattle.set_plan.specs.declared.Times.{Times}
use Rattle.set_plan.specs.Answering.{master_number, is_counted, accepts}
use Rattle.machine_master.specs.declared.Phase.{Phase}
use Rattle.machine_master.specs.declared.Hold.{Hold}
use Rattle.machine_master.specs.declared.Command.{Command}
use Rattle.machine_master.specs.declared.Answer.{Answer}
use Rattle.machine_master.specs.declared.Master.{Master}
use Rattle.machine_master.specs.declared.Reply.{Reply}
use Rattle.machine_master.specs.Changes.{no_hold, no_holds, power_on, in_phase, with_permission, with_counts, let_go, with_cause, drop_all, call_back_by, call_back, commands}
use Rattle.machine_master.specs.Clock.{is_off}
use Rattle.machine_master.specs.Ticks.{older, older_at, all_older, all_aged_out, aged, tick_by, tick_step}
use Rattle.machine_master.specs.Waking.{wake_up_by, wake_up_step, permission_step}
use Rattle.machine_master.specs.Sleeping.{not_held, sleep_ask_by, sleep_ask_step, send_result_by, send_result_step}
use Rattle.machine_master.specs.Answers.{is_whole, act_on_bits, row_step}
use Rattle.machine_master.proofs.Awake.{split}

-- a sleep message under way, and not called back
abbrev pub is_under_way : Phase → Bool
is_under_way Phase.Open = false
is_under_way Phase.Sending = true
is_under_way Phase.Withdrawn = false
is_under_way Phase.Closing = true

abbrev pub hold_at : List Hold → ℕ → Hold
hold_at holds i = get_or holds i no_hold

-- each permission that is held, of the first n nodes, was given as long ago as its age says, at most the window
abbrev pub HoldsGiven : ℕ → ℕ → (ℕ → ℕ → Type 0) → List Hold → Type 0
HoldsGiven n window Given holds = (i : ℕ) → i < n → (hold_at holds i).held ≡ true → Given i (hold_at holds i).age × ((hold_at holds i).age ≤ window)

abbrev pub NoneHeld : List Hold → Type 0
NoneHeld holds = (i : ℕ) → i < 16 → (hold_at holds i).held ≡ false

-- the application's last word is `permitted`; `Given i k`: node i gave its permission k ticks ago; `Agreed`: all did when the sleep message was sent
pub record InRun (n window : ℕ) (permitted : Bool) (Given : ℕ → ℕ → Type 0) (Agreed : Type 0) (m : Master) : Type 0 where
  pub permission : m.permission ≡ permitted
  pub holds : HoldsGiven n window Given m.holds
  pub agreed : is_under_way m.phase ≡ true → Agreed
  -- true of a run only: a state in range may hold permissions outside Normal
  pub outside : is_normal m.state ≡ false → NoneHeld m.holds × (is_under_way m.phase ≡ false)

none-held : NoneHeld no_holds
none-held i l = ap (λ (h : Hold). h.held) (get_or-replicate 16 i no_hold no_hold l)

older-held : (window : ℕ) (h : Hold) → (older window h).held ≡ true → (h.held ≡ true) × (h.age < window) × ((older window h).age ≡ suc h.age)
older-held window h =
    by_test Old h.held
    (λ e. by_test Old (ltb h.age window) (λ l y. (e, ltb-true h.age window l, omega arith)) (λ l y. no_way y))
    (λ e y. no_way (sym e ∙ y))
  where
    Old : Hold → Type 0
    Old x = x.held ≡ true → (h.held ≡ true) × (h.age < window) × (x.age ≡ suc h.age)

older_at_lem : (window : ℕ) (holds : List Hold) (i : ℕ) → i < 16 → hold_at (all_older window holds) i ≡ older window (hold_at holds i)
unfolding all_older
older_at_lem window holds i l = get_or-tab 16 (older_at window holds) i no_hold l

none-older : (window : ℕ) (holds : List Hold) → NoneHeld holds → NoneHeld (all_older window holds)
none-older window holds none i l = rw (older_at_lem window holds i l, none i l) (none i l)

-- where the lowest node that is not held is none of the first n, each of them is held
all_held : (n : ℕ) (holds : List Hold) → n ≤ first_to (not_held holds) n → (i : ℕ) → i < n → (hold_at holds i).held ≡ true
unfolding not_held
all_held n holds h i l = not-false _ (first_past (not_held holds) n h i l)

module _ (n : ℕ) (few : n ≤ 16) (t : Times) (Given Given' : ℕ → ℕ → Type 0) (Agreed Agreed' : Type 0) (permitted : Bool) where
  abbrev Before : Master → Type 0
  Before m = InRun n t.window permitted Given Agreed m

  abbrev After : Master → Type 0
  After m = InRun n t.window permitted Given' Agreed' m

  none_holds : (holds : List Hold) → NoneHeld holds → HoldsGiven n t.window Given' holds
  none_holds holds none i l y = no_way (sym (none i (omega arith)) ∙ y)

  holds_older : (holds : List Hold) → ((i k : ℕ) → i < n → Given i k → Given' i (suc k)) → HoldsGiven n t.window Given holds → HoldsGiven n t.window Given' (all_older t.window holds)
  holds_older holds later h i l y =
      let same = older_at_lem t.window holds i (omega arith) in
      let old = older-held t.window (hold_at holds i) (rw same at y) in
      rw (same, old.2) (later i _ l (h i l old.0).0, old.1)

  holds_still : (holds : List Hold) → ((i k : ℕ) → i < n → Given i k → Given' i k) → HoldsGiven n t.window Given holds → HoldsGiven n t.window Given' holds
  holds_still holds keep h i l y = (keep i _ l (h i l y).0, (h i l y).1)

  holds_set : (holds : List Hold) (who : ℕ) (x : Hold) → ((i k : ℕ) → i < n → (i ≡ who → ⊥) → Given i k → Given' i k) → (x.held ≡ true → Given' who x.age × (x.age ≤ t.window))
      → HoldsGiven n t.window Given holds → HoldsGiven n t.window Given' (set holds who x)
  holds_set holds who x keep new h i l = go (ℕ_discrete i who) (dec_lt who (length holds))
    where
      Right : ℕ → Hold → Type 0
      Right j y = y.held ≡ true → Given' j y.age × (y.age ≤ t.window)

      go : Dec (i ≡ who) → Dec (who < length holds) → Right i (hold_at (set holds who x) i)
      go (no e) d = rw (get_or-set_other holds who i x no_hold e) (λ y. (keep i _ l e (h i l y).0, (h i l y).1))
      go (yes e) (yes d) = rw (e, get_or-set_same holds who x no_hold d) new
      go (yes e) (no d) =
          let past : length holds ≤ who = omega arith in
          rw (e, set_out holds who x past, get_or-eq_default holds no_hold past) (λ y. no_way y)

  -- a step that does nothing at the master
  pub run_still : (m : Master) → ((i k : ℕ) → i < n → Given i k → Given' i k) → (Agreed → Agreed') → Before m → After m
  run_still m keep agree v = record { permission = v.permission; holds = holds_still m.holds keep v.holds; agreed = λ g. agree (v.agreed g); outside = v.outside }

  -- after a call back nothing is under way
  back : (m : Master) → m.permission ≡ permitted → HoldsGiven n t.window Given' m.holds → (is_normal m.state ≡ false → NoneHeld m.holds) → After (call_back m)
  back m p h o = go m.phase
    where
      go : (q : Phase) → After (call_back_by q (split m m.state q))
      go Phase.Open = record { permission = p; holds = h; agreed = λ g. no_way g; outside = λ e. (o e, refl) }
      go Phase.Sending = record { permission = p; holds = h; agreed = λ g. no_way g; outside = λ e. (o e, refl) }
      go Phase.Withdrawn = record { permission = p; holds = h; agreed = λ g. no_way g; outside = λ e. (o e, refl) }
      go Phase.Closing = record { permission = p; holds = h; agreed = λ g. no_way g; outside = λ e. (o e, refl) }

  -- a wake-up: nothing is held or under way after it
  pub run_wake_up : (m : Master) → Before m → After (wake_up_step m).master
  run_wake_up m v = go m.state v.outside
    where
      go : (s : State) → (is_normal s ≡ false → NoneHeld m.holds × (is_under_way m.phase ≡ false)) → After (wake_up_by s (split m s m.phase)).master
      go State.Normal o = back (drop_all (split m State.Normal m.phase)) v.permission (none_holds no_holds none-held) (λ e. none-held)
      go State.Standby o =
          record { permission = v.permission; holds = none_holds m.holds (o refl).0; agreed = λ g. no_way (sym (o refl).1 ∙ g); outside = o }
      go State.Sleep o =
          record { permission = v.permission; holds = none_holds m.holds (o refl).0; agreed = λ g. no_way (sym (o refl).1 ∙ g); outside = λ e. o refl }

  pub run_tick : (m : Master) → ((i k : ℕ) → i < n → Given i k → Given' i (suc k)) → (Agreed → Agreed') → Before m → After (tick_step t m).master
  run_tick m later agree v = go m.state m.phase v
    where
      -- nothing is held
      quiet : (s : State) (q : Phase) → is_normal s ≡ false → Before (split m s q) → NoneHeld (all_older t.window m.holds)
      quiet s q e v = none-older t.window m.holds (v.outside e).0

      -- outside Normal, as it was
      off : (s : State) (q : Phase) (delay : ℕ) → is_normal s ≡ false → Before (split m s q)
          → After (record { state = s; phase = q; permission = m.permission; holds = all_older t.window m.holds; causes = all_aged_out (is_normal s) t.window m.holds m.causes; counts = m.counts; delay = delay; ticks = (aged t.window m).ticks })
      off s q delay e v =
          record { permission = v.permission; holds = none_holds (all_older t.window m.holds) (quiet s q e v); agreed = λ g. agree (v.agreed g); outside = λ h. (quiet s q e v, (v.outside e).1) }

      -- in Normal, as it was
      on : (q : Phase) (delay : ℕ) → Before (split m State.Normal q)
          → After (record { state = State.Normal; phase = q; permission = m.permission; holds = all_older t.window m.holds; causes = all_aged_out true t.window m.holds m.causes; counts = m.counts; delay = delay; ticks = (aged t.window m).ticks })
      on q delay v =
          record { permission = v.permission; holds = holds_older m.holds later v.holds; agreed = λ g. agree (v.agreed g); outside = λ e. no_way (sym e) }

      go : (s : State) (q : Phase) → Before (split m s q) → After (tick_by t s q (aged t.window (split m s q))).master
      go State.Sleep q v = off State.Sleep q m.delay refl v
      go State.Standby q v =
          by_test (λ (r : Reply). After r.master) (ltb (m.delay + 1) t.start)
          (λ l. off State.Standby q (m.delay + 1) refl v)
          (λ l. record { permission = v.permission; holds = none_holds (all_older t.window m.holds) (quiet State.Standby q refl v); agreed = λ g. no_way g; outside = λ e. no_way (sym e) })
      go State.Normal Phase.Open v = on Phase.Open m.delay v
      go State.Normal Phase.Sending v = on Phase.Sending m.delay v
      go State.Normal Phase.Withdrawn v = on Phase.Withdrawn m.delay v
      go State.Normal Phase.Closing v =
          by_test (λ (r : Reply). After r.master) (ltb (m.delay + 1) t.stop)
          (λ l. on Phase.Closing (m.delay + 1) v)
          (λ l. record { permission = v.permission; holds = none_holds no_holds none-held; agreed = λ g. no_way g; outside = λ e. (none-held, refl) })

  -- the clock is stopped with a sleep message under way
  pub run_stops : (m : Master) → Before m → is_off (tick_step t m).command ≡ true → Agreed
  run_stops m v = go m.state m.phase v.agreed
    where
      go : (s : State) (q : Phase) → (is_under_way q ≡ true → Agreed) → is_off (tick_by t s q (aged t.window m)).command ≡ true → Agreed
      go State.Sleep q g = λ e. no_way e
      go State.Standby q g = by_test (λ (r : Reply). is_off r.command ≡ true → Agreed) (ltb (m.delay + 1) t.start) (λ l e. no_way e) (λ l e. no_way e)
      go State.Normal Phase.Open g = λ e. no_way e
      go State.Normal Phase.Sending g = λ e. no_way e
      go State.Normal Phase.Withdrawn g = λ e. no_way e
      go State.Normal Phase.Closing g = λ e. g refl

  -- the result of a sleep message: one that was called back is under way no more
  pub run-result : (m : Master) (sent : Bool) → ((i k : ℕ) → i < n → Given i k → Given' i k) → (Agreed → Agreed') → Before m → After (send_result_step sent m).master
  run-result m sent keep agree v = go sent m.state m.phase (run_still m keep agree v)
    where
      rest : (q : Phase) → After (split m State.Normal q) → After (in_phase Phase.Open (split m State.Normal q))
      rest q v = record { permission = v.permission; holds = v.holds; agreed = λ g. no_way g; outside = λ e. no_way (sym e) }

      go : (sent : Bool) (s : State) (q : Phase) → After (split m s q) → After (send_result_by sent s q (split m s q)).master
      go sent State.Normal Phase.Open v = v
      go true State.Normal Phase.Sending v = record { permission = v.permission; holds = v.holds; agreed = λ g. v.agreed refl; outside = λ e. no_way (sym e) }
      go false State.Normal Phase.Sending v = rest Phase.Sending v
      go sent State.Normal Phase.Withdrawn v = rest Phase.Withdrawn v
      go sent State.Normal Phase.Closing v = v
      go sent State.Standby q v = v
      go sent State.Sleep q v = v

  -- a sleep ask is refused, or all permit and it is accepted
  pub run_ask : (Q : Reply → Type 0) (m : Master) → ((number node : ℕ) → Q (record { master = m; command = Command.Nothing; refusal = number; node = node; lost = 0 }))
      → (is_normal m.state ≡ true → permitted ≡ true → ((i : ℕ) → i < n → (k : ℕ) × (k ≤ t.window) × Given i k) → Q (commands Command.SleepMessage (in_phase Phase.Sending m)))
      → (sleeps : Bool) → Before m → Q (sleep_ask_step sleeps n m)
  run_ask Q m refused accepted sleeps v = go m.state refl sleeps m.phase
    where
      go : (s : State) → m.state ≡ s → (sleeps : Bool) (q : Phase) → Q (sleep_ask_by n s sleeps q m)
      go State.Normal e true Phase.Open =
          by_test Q m.permission
          (λ y. by_test Q (ltb (first_to (not_held m.holds) n) n)
          (λ l. refused 20 (first_to (not_held m.holds) n))
          (λ l. accepted (ap is_normal e) (sym v.permission ∙ y)
          (λ i h. let g = v.holds i h (all_held n m.holds (ltb-false _ _ l) i h) in ((hold_at m.holds i).age, g.1, g.0))))
          (λ y. refused 19 0)
      go State.Normal e true Phase.Sending = refused 18 0
      go State.Normal e true Phase.Withdrawn = refused 18 0
      go State.Normal e true Phase.Closing = refused 18 0
      go State.Normal e false q = refused 25 0
      go State.Standby e sleeps q = refused 16 0
      go State.Sleep e sleeps q = refused 16 0

  -- an answer in Normal, of a node's row: others' permissions stay unless it is a wake-up; one that permits is held and calls nothing back
  pub run-answer : (m : Master) (row : Row) (a : Answer) → is_normal m.state ≡ true → row.publisher < n
      → ((i k : ℕ) → i < n → (i ≡ row.publisher → ⊥) → (is_whole row a && a.wake) ≡ false → Given i k → Given' i k)
      → (is_whole row a ≡ true → a.permission ≡ true → a.wake ≡ false → Given' row.publisher 0 × (Agreed → Agreed'))
      → Before m → After (row_step row a m).master
  run-answer m row a on l others given v =
      by_test P (eqb row.publisher master_number)
      (λ e. absurd (omega (arith, few, l, eqb-true row.publisher master_number e)))
      (λ e. by_test P (eqb a.result 0)
      (λ z. by_test P (accepts row a.length)
      (λ w. by_test P (is_counted row) (λ c. whole (set m.counts row.reqid a.count) z w) (λ c. whole m.counts z w))
      (λ w. dropped _ m.counts (rw (z, w))))
      (λ z. dropped _ m.counts (rw z)))
    where
      P : Reply → Type 0
      P r = After r.master

      inside : {A : Type 0} → is_normal m.state ≡ false → A
      inside e = no_way (sym e ∙ on)

      -- the publisher's permission goes
      dropped : (cause : ℕ) (counts : List ℕ) → (is_whole row a && a.wake) ≡ false → After (call_back (let_go row.publisher (with_cause cause row.publisher (with_counts counts m))))
      dropped cause counts e =
          back (let_go row.publisher (with_cause cause row.publisher (with_counts counts m))) v.permission
          (holds_set m.holds row.publisher no_hold (λ i k h n. others i k h n e) (λ y. no_way y) v.holds) inside

      whole : (counts : List ℕ) → eqb a.result 0 ≡ true → accepts row a.length ≡ true → After (act_on_bits row.publisher a.permission a.wake (with_counts counts m))
      whole counts z w =
          by_test After a.wake
          (λ x. back (with_cause _ row.publisher (drop_all (with_counts counts m))) v.permission (none_holds no_holds none-held) inside)
          (λ x. by_test After a.permission
          (λ y. let g = given (rw (z, w)) y x in
          record {
            permission = v.permission;
            holds = holds_set m.holds row.publisher (record { held = true; age = 0 }) (λ i k h n. others i k h n (rw (z, w, x))) (λ y. (g.0, omega arith)) v.holds;
            agreed = λ h. g.1 (v.agreed h);
            outside = inside;
          })
          (λ y. dropped _ counts (rw (z, w, x))))

-- the application's word; a no calls back
pub run_permission : (n : ℕ) (few : n ≤ 16) (t : Times) (Given Given' : ℕ → ℕ → Type 0) (Agreed Agreed' : Type 0) (permitted word : Bool) (m : Master)
    → ((i k : ℕ) → i < n → Given i k → Given' i k) → (Agreed → Agreed') → InRun n t.window permitted Given Agreed m
    → InRun n t.window word Given' Agreed' (permission_step word m).master
run_permission n few t Given Given' Agreed Agreed' permitted true m keep agree v =
    let still = run_still n few t Given Given' Agreed Agreed' permitted m keep agree v in
    record { permission = refl; holds = still.holds; agreed = still.agreed; outside = still.outside }
run_permission n few t Given Given' Agreed Agreed' permitted false m keep agree v =
    back n few t Given Given' Agreed Agreed' false (with_permission false m) refl (run_still n few t Given Given' Agreed Agreed' permitted m keep agree v).holds (λ e. (v.outside e).0)

-- a sleep message is sent
pub run-sending : (n window : ℕ) (permitted : Bool) (Given : ℕ → ℕ → Type 0) (Agreed Agreed' : Type 0) (m : Master) → is_normal m.state ≡ true → Agreed'
    → InRun n window permitted Given Agreed m → InRun n window permitted Given Agreed' (in_phase Phase.Sending m)
run-sending n window permitted Given Agreed Agreed' m on agreed v =
    record { permission = v.permission; holds = v.holds; agreed = λ g. agreed; outside = λ e. no_way (sym e ∙ on) }

pub run-power_on : (n window : ℕ) (few : n ≤ 16) (Given : ℕ → ℕ → Type 0) (Agreed : Type 0) (sleeps : Bool) → InRun n window false Given Agreed (power_on sleeps)
run-power_on n window few Given Agreed true =
    record { permission = refl; holds = λ i l y. no_way (sym (none-held i (omega arith)) ∙ y); agreed = λ g. no_way g; outside = λ e. (none-held, refl) }
run-power_on n window few Given Agreed false =
    record { permission = refl; holds = λ i l y. no_way (sym (none-held i (omega arith)) ∙ y); agreed = λ g. no_way g; outside = λ e. (none-held, refl) }
