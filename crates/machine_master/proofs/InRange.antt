-- From a state in range, under an accepted plan, every step gives a state in range.
use Rattle.std.proofs.Common.{◌≡◌, ℕ, ◌+◌, ◌<◌, ◌≤◌, Bool, true, false, not, ◌&&◌, ◌||◌, eqb, ltb, leb, List, length, get_or, set, sym, refl, ap, ◌∙◌, ap₂, arith, get_or-set_other, get_or-set_same, ltb-true, le-ltb, lt-ltb, le-leb, Option, Some, None}
use lib.ListN.{get_or-replicate, get_or-eq_default}
use lib.Seq.{set_out}
use native.Mathlib.Decide.{dec_lt, ℕ_discrete}
use borrow.Author.Tests.{lt-leb}
use Rattle.base_lists.specs.Bounded.{all_to, first_to}
use Rattle.base_lists.proofs.AllAny.{and_l, and_r, all_at, all_intro}
use Rattle.base_lists.proofs.Choices.{by_test, no_way}
use Rattle.base_lists.proofs.Tables.{get_or-tab}
use Rattle.machine_state.specs.declared.State.{State}
use Rattle.machine_state.specs.State.{is_normal}
use Rattle.machine_state.specs.Counts.{counts_below}
use Rattle.machine_state.proofs.CountTables.{counts_set}
use Rattle.set_plan.specs.declared.Row.{Row}
use Rattle.set_plan.specs.declared.Times.{Times}
use Rattle.set_plan.specs.declared.Plan.{Plan}
use Rattle.set_plan.specs.Profile.{sleeps}
use Rattle.set_plan.specs.Rules.{plan_refusal}
use Rattle.set_plan.specs.Answering.{master_number, is_counted, accepts}
use Rattle.set_plan.specs.Find.{find_row}
use Rattle.set_plan.proofs.Accepted.{accepted, TimesFit, times_fit}
use Rattle.set_plan.proofs.Lookups.{found_publisher}
use Rattle.machine_master.specs.declared.Phase.{Phase}
use Rattle.machine_master.specs.declared.Hold.{Hold}
use Rattle.machine_master.specs.declared.Answer.{Answer}
use Rattle.machine_master.specs.declared.Master.{Master}
use Rattle.machine_master.specs.declared.Event.{Event}
use Rattle.machine_master.specs.declared.Reply.{Reply}
use Rattle.machine_master.specs.Changes.{no_hold, no_holds, no_causes, no_counts, power_on, in_phase, with_permission, let_go, let_all_go, hold, with_cause, woken, woken_at, all_woken, drop_all, call_back_by, call_back}
use Rattle.machine_master.specs.Range.{is_open, is_awake, phase_right, delay_right, hold_right, hold_right_at, holds_right, cause_right, cause_right_at, causes_right, in_range}
use Rattle.machine_master.specs.Ticks.{older, older_at, all_older, aged_out, aged_out_at, all_aged_out, aged, tick_by}
use Rattle.machine_master.specs.Waking.{wake_up_by, permission_step}
use Rattle.machine_master.specs.Sleeping.{not_held, sleep_ask_by, send_result_by}
use Rattle.machine_master.specs.Answers.{act_on_bits, count_stored, whole_step, row_step, answer_by}
use Rattle.machine_master.specs.Step.{event_right, act, master_step}
use Rattle.machine_master.proofs.Awake.{Awake, step_awake}

-- what a state in range keeps, whether machines sleep or not
pub record Fits (nodecount : ℕ) (t : Times) (m : Master) : Type 0 where
  pub phase : phase_right m.state m.phase ≡ true
  pub delay : delay_right t m.state m.phase m.delay ≡ true
  pub counts : counts_below 5 m.counts ≡ true
  pub holds : holds_right nodecount t.window m.holds ≡ true
  pub causes : causes_right (is_normal m.state) nodecount m.holds m.causes ≡ true

pub fits : (sleeps : Bool) (nodecount : ℕ) (t : Times) (m : Master) → in_range sleeps nodecount t m ≡ true → Fits nodecount t m
unfolding in_range
fits sleeps nodecount t m e =
    let u = sleeps || is_awake m.state m.phase in
    let p = phase_right m.state m.phase in
    let d = delay_right t m.state m.phase m.delay in
    let c = counts_below 5 m.counts in
    let h = holds_right nodecount t.window m.holds in
    let w = causes_right (is_normal m.state) nodecount m.holds m.causes in
    let updc = and_l (u && p && d && c) (h && w) e in
    let hw = and_r (u && p && d && c) (h && w) e in
    let upd = and_l (u && p && d) c updc in
    record { phase = and_r u p (and_l (u && p) d upd); delay = and_r (u && p) d upd; counts = and_r (u && p && d) c updc; holds = and_l h w hw; causes = and_r h w hw }

-- and where they do not
pub awake : (nodecount : ℕ) (t : Times) (m : Master) → in_range false nodecount t m ≡ true → Awake m
unfolding in_range
awake nodecount t m e =
    let u = is_awake m.state m.phase in
    let p = phase_right m.state m.phase in
    let d = delay_right t m.state m.phase m.delay in
    let c = counts_below 5 m.counts in
    and_l u p (and_l (u && p) d (and_l (u && p && d) c (and_l (u && p && d && c) _ e)))

pub in_range_lem : (sleeps : Bool) (nodecount : ℕ) (t : Times) (m : Master) → (sleeps ≡ false → Awake m) → Fits nodecount t m → in_range sleeps nodecount t m ≡ true
unfolding in_range
in_range_lem true nodecount t m a f = rw (f.phase, f.delay, f.counts, f.holds, f.causes)
in_range_lem false nodecount t m a f = rw (a refl, f.phase, f.delay, f.counts, f.holds, f.causes)

no_counts_lem : counts_below 5 no_counts ≡ true
unfolding counts_below all_to
no_counts_lem = refl

module _ (nodecount window : ℕ) where
  -- permissions that keep the limits keep them at each place
  hold_at_lem : (holds : List Hold) (k : ℕ) → holds_right nodecount window holds ≡ true → k < 16 → hold_right nodecount window k (get_or holds k no_hold) ≡ true
  unfolding holds_right
  hold_at_lem holds k e l = all_at (hold_right_at nodecount window holds) 16 e k l

  none_right : holds_right nodecount window no_holds ≡ true
  unfolding holds_right
  none_right = all_intro (hold_right_at nodecount window no_holds) 16 (λ k l. ap (hold_right nodecount window k) (get_or-replicate 16 k no_hold no_hold l))

  set_right : (holds : List Hold) (i : ℕ) (h : Hold) → holds_right nodecount window holds ≡ true → hold_right nodecount window i h ≡ true → holds_right nodecount window (set holds i h) ≡ true
  unfolding holds_right
  set_right holds i h e r = all_intro (hold_right_at nodecount window (set holds i h)) 16 (λ k l. at k l (ℕ_discrete k i) (dec_lt i (length holds)))
    where
      at : (k : ℕ) → k < 16 → Dec (k ≡ i) → Dec (i < length holds) → hold_right nodecount window k (get_or (set holds i h) k no_hold) ≡ true
      at k l (no n) q = rw (get_or-set_other holds i k h no_hold n) (hold_at_lem holds k e l)
      at k l (yes z) (yes q) = rw (z, get_or-set_same holds i h no_hold q) r
      at k l (yes z) (no q) = rw (set_out holds i h (omega arith)) (hold_at_lem holds k e l)

  older_right : (k : ℕ) (h : Hold) → hold_right nodecount window k h ≡ true → hold_right nodecount window k (older window h) ≡ true
  older_right k h =
      by_test (λ (x : Hold). hold_right nodecount window k h ≡ true → hold_right nodecount window k x ≡ true) h.held
      (λ y. by_test (λ (x : Hold). hold_right nodecount window k h ≡ true → hold_right nodecount window k x ≡ true) (ltb h.age window)
      (λ l r.
      let a : (ltb k nodecount && leb h.age window) ≡ true = rw y at r in
      rw (and_l (ltb k nodecount) (leb h.age window) a, le-leb (h.age + 1) window (omega (arith, ltb-true h.age window l))))
      (λ l r. refl))
      (λ y r. r)

  all_older_right : (holds : List Hold) → holds_right nodecount window holds ≡ true → holds_right nodecount window (all_older window holds) ≡ true
  unfolding holds_right all_older
  all_older_right holds e =
      all_intro (hold_right_at nodecount window (all_older window holds)) 16
      (λ k l. ap (hold_right nodecount window k) (get_or-tab 16 (older_at window holds) k no_hold l) ∙ older_right k (get_or holds k no_hold) (hold_at_lem holds k e l))

  -- 0 is right at each place
  zero_right : (normal : Bool) (k : ℕ) (held : Bool) → cause_right normal nodecount k held 0 ≡ true
  zero_right normal k held = by_test (λ (x : Bool). x ≡ true) (normal && ltb k nodecount && not held) (λ y. refl) (λ y. refl)

  cause_at_lem : (normal : Bool) (holds : List Hold) (causes : List ℕ) (k : ℕ) → causes_right normal nodecount holds causes ≡ true → k < 16
      → cause_right normal nodecount k (get_or holds k no_hold).held (get_or causes k 0) ≡ true
  unfolding causes_right
  cause_at_lem normal holds causes k e l = all_at (cause_right_at normal nodecount holds causes) 16 e k l

  no_causes_right : (normal : Bool) (holds : List Hold) → causes_right normal nodecount holds no_causes ≡ true
  unfolding causes_right
  no_causes_right normal holds =
      all_intro (cause_right_at normal nodecount holds no_causes) 16
      (λ k l. ap (cause_right normal nodecount k (get_or holds k no_hold).held) (get_or-replicate 16 k 0 0 l) ∙ zero_right normal k (get_or holds k no_hold).held)

  -- node i is held with cause 0, or not held
  set_both_right : (normal : Bool) (holds : List Hold) (causes : List ℕ) (i : ℕ) (h : Hold) (c : ℕ) → causes_right normal nodecount holds causes ≡ true
      → cause_right normal nodecount i h.held c ≡ true → cause_right normal nodecount i false c ≡ true
      → causes_right normal nodecount (set holds i h) (set causes i c) ≡ true
  unfolding causes_right
  set_both_right normal holds causes i h c e r s =
      all_intro (cause_right_at normal nodecount (set holds i h) (set causes i c)) 16 (λ k l. at k l (ℕ_discrete k i) (dec_lt i (length holds)) (dec_lt i (length causes)))
    where
      at : (k : ℕ) → k < 16 → Dec (k ≡ i) → Dec (i < length holds) → Dec (i < length causes)
          → cause_right normal nodecount k (get_or (set holds i h) k no_hold).held (get_or (set causes i c) k 0) ≡ true
      at k l (no n) p q = rw (get_or-set_other holds i k h no_hold n, get_or-set_other causes i k c 0 n) (cause_at_lem normal holds causes k e l)
      at k l (yes z) (yes p) (yes q) = rw (z, get_or-set_same holds i h no_hold p, get_or-set_same causes i c 0 q) r
      at k l (yes z) (no p) (yes q) =
          let past : length holds ≤ i = omega arith in
          rw (z, set_out holds i h past, get_or-eq_default holds no_hold past, get_or-set_same causes i c 0 q) s
      at k l (yes z) p (no q) =
          let past : length causes ≤ i = omega arith in
          rw (z, set_out causes i c past, get_or-eq_default causes 0 past) (zero_right normal i (get_or (set holds i h) i no_hold).held)

  -- nothing is held, node i has another cause
  set-cause_right : (normal : Bool) (causes : List ℕ) (i c : ℕ) → causes_right normal nodecount no_holds causes ≡ true → cause_right normal nodecount i false c ≡ true
      → causes_right normal nodecount no_holds (set causes i c) ≡ true
  unfolding causes_right
  set-cause_right normal causes i c e r =
      all_intro (cause_right_at normal nodecount no_holds (set causes i c)) 16 (λ k l. at k l (ℕ_discrete k i) (dec_lt i (length causes)))
    where
      at : (k : ℕ) → k < 16 → Dec (k ≡ i) → Dec (i < length causes) → cause_right normal nodecount k (get_or no_holds k no_hold).held (get_or (set causes i c) k 0) ≡ true
      at k l (no n) q = rw (get_or-set_other causes i k c 0 n) (cause_at_lem normal no_holds causes k e l)
      at k l (yes z) (yes q) = rw (get_or-replicate 16 k no_hold no_hold l, z, get_or-set_same causes i c 0 q) r
      at k l (yes z) (no q) = rw (set_out causes i c (omega arith)) (cause_at_lem normal no_holds causes k e l)

  -- a wake-up in Normal
  woken_right : (holds : List Hold) (causes : List ℕ) → holds_right nodecount window holds ≡ true → causes_right true nodecount holds causes ≡ true
      → causes_right true nodecount no_holds (all_woken holds causes) ≡ true
  unfolding causes_right all_woken
  woken_right holds causes hs cs =
      all_intro (cause_right_at true nodecount no_holds (all_woken holds causes)) 16
      (λ k l. ap₂ (cause_right true nodecount k) (ap (λ (h : Hold). h.held) (get_or-replicate 16 k no_hold no_hold l)) (get_or-tab 16 (woken_at holds causes) k 0 l)
      ∙ at k (get_or holds k no_hold) (get_or causes k 0) (hold_at_lem holds k hs l) (cause_at_lem true holds causes k cs l))
    where
      at : (k : ℕ) (h : Hold) (c : ℕ) → hold_right nodecount window k h ≡ true → cause_right true nodecount k h.held c ≡ true → cause_right true nodecount k false (woken h c) ≡ true
      at k h c r s =
          by_test (λ (x : ℕ). cause_right true nodecount k false x ≡ true) h.held
          (λ y. let a : (ltb k nodecount && leb h.age window) ≡ true = rw y at r in rw (and_l (ltb k nodecount) (leb h.age window) a))
          (λ y. rw y at s)

  -- a tick
  aged_out_right : (normal : Bool) (holds : List Hold) (causes : List ℕ) → holds_right nodecount window holds ≡ true → causes_right normal nodecount holds causes ≡ true
      → causes_right normal nodecount (all_older window holds) (all_aged_out normal window holds causes) ≡ true
  unfolding causes_right all_older all_aged_out
  aged_out_right normal holds causes hs cs =
      all_intro (cause_right_at normal nodecount (all_older window holds) (all_aged_out normal window holds causes)) 16
      (λ k l. ap₂ (λ (h : Hold) c. cause_right normal nodecount k h.held c) (get_or-tab 16 (older_at window holds) k no_hold l) (get_or-tab 16 (aged_out_at normal window holds causes) k 0 l)
      ∙ at normal k (get_or holds k no_hold) (get_or causes k 0) (hold_at_lem holds k hs l) (cause_at_lem normal holds causes k cs l))
    where
      at : (normal : Bool) (k : ℕ) (h : Hold) (c : ℕ) → hold_right nodecount window k h ≡ true → cause_right normal nodecount k h.held c ≡ true
          → cause_right normal nodecount k (older window h).held (aged_out normal window h c) ≡ true
      at false k h c r s = s
      at true k h c r s = go h.held refl (dec_lt h.age window)
        where
          go : (b : Bool) → h.held ≡ b → Dec (h.age < window) → cause_right true nodecount k (older window h).held (aged_out true window h c) ≡ true
          go true e (yes l) = rw (e, lt-ltb h.age window l, lt-leb window h.age l) (rw e at s)
          go true e (no l) =
              let a : (ltb k nodecount && leb h.age window) ≡ true = rw e at r in
              let w : window ≤ h.age = omega arith in
              rw (e, le-ltb h.age window w, le-leb window h.age w, and_l (ltb k nodecount) (leb h.age window) a)
          go false e d = rw e (rw e at s)

-- letting all go leaves nothing held
all_gone : (m : Master) → (let_all_go m).holds ≡ no_holds
all_gone m = refl

module _ (nodecount : ℕ) (t : Times) (a : TimesFit t) where
  abbrev Kept : Reply → Type 0
  Kept r = Fits nodecount t r.master

  -- a cause of a node that is not held, in Normal
  cause_right_lem : (m : Master) (k c : ℕ) → is_normal m.state ≡ true → k < nodecount → leb c 4 ≡ true → cause_right (is_normal m.state) nodecount k false c ≡ true
  cause_right_lem m k c on l few = rw (on, lt-ltb k nodecount l, few)

  let_go_fits : (k c : ℕ) (m : Master) → is_normal m.state ≡ true → k < nodecount → leb c 4 ≡ true → Fits nodecount t m → Fits nodecount t (let_go k (with_cause c k m))
  let_go_fits k c m on l few f =
      record {
        phase = f.phase;
        delay = f.delay;
        counts = f.counts;
        holds = set_right nodecount t.window m.holds k no_hold f.holds refl;
        causes = set_both_right nodecount t.window (is_normal m.state) m.holds m.causes k no_hold c f.causes (cause_right_lem m k c on l few) (cause_right_lem m k c on l few);
      }

  drop_all_fits : (m : Master) → is_normal m.state ≡ true → Fits nodecount t m → Fits nodecount t (drop_all m)
  drop_all_fits m on f =
      record {
        phase = f.phase;
        delay = f.delay;
        counts = f.counts;
        holds = rw (all_gone m) (none_right nodecount t.window);
        causes = rw (all_gone m, on) (woken_right nodecount t.window m.holds m.causes f.holds (rw on at f.causes));
      }

  -- a wake-up that node k's answer carried
  carried_fits : (k c : ℕ) (m : Master) → is_normal m.state ≡ true → k < nodecount → leb c 4 ≡ true → Fits nodecount t m → Fits nodecount t (with_cause c k (drop_all m))
  carried_fits k c m on l few f =
      let d = drop_all_fits m on f in
      record {
        phase = d.phase;
        delay = d.delay;
        counts = d.counts;
        holds = d.holds;
        causes = set-cause_right nodecount t.window (is_normal m.state) (all_woken m.holds m.causes) k c d.causes (cause_right_lem m k c on l few);
      }

  hold_fits : (k : ℕ) (m : Master) → k < nodecount → Fits nodecount t m → Fits nodecount t (hold k (with_cause 0 k m))
  hold_fits k m l f =
      record {
        phase = f.phase;
        delay = f.delay;
        counts = f.counts;
        holds = set_right nodecount t.window m.holds k (record { held = true; age = 0 }) f.holds (rw (lt-ltb k nodecount l, le-leb 0 t.window (omega arith)));
        causes =
            set_both_right nodecount t.window (is_normal m.state) m.holds m.causes k (record { held = true; age = 0 }) 0 f.causes
            (zero_right nodecount t.window (is_normal m.state) k true) (zero_right nodecount t.window (is_normal m.state) k false);
      }

  -- a phase of Normal, delay 0
  phase_fits : (phase : Phase) (m : Master) → m.state ≡ State.Normal → Fits nodecount t m → Fits nodecount t (in_phase phase m)
  phase_fits phase m e f = record { phase = rw e; delay = rw e (zero_fits phase); counts = f.counts; holds = f.holds; causes = f.causes }
    where
      zero_fits : (q : Phase) → delay_right t State.Normal q 0 ≡ true
      zero_fits Phase.Open = refl
      zero_fits Phase.Sending = refl
      zero_fits Phase.Withdrawn = refl
      zero_fits Phase.Closing = lt-ltb 0 t.stop (omega (arith, a.stop.least))

  -- calling back changes a phase only in Normal, since every other state is Open
  call_back_fits : (m : Master) → Fits nodecount t m → Fits nodecount t (call_back m)
  call_back_fits m f = go m.state refl m.phase refl
    where
      other : (s : State) → m.state ≡ s → (q : Phase) → m.phase ≡ q → is_open q ≡ false → phase_right s q ≡ is_open q → Fits nodecount t (call_back_by q m)
      other s e q w n h = let z : ◌≡◌ {A = ℕ} 0 1 = cc (f.phase, ap (λ x. phase_right x m.phase) e, ap (phase_right s) w, h, n) in absurd (omega arith)

      go : (s : State) → m.state ≡ s → (q : Phase) → m.phase ≡ q → Fits nodecount t (call_back_by q m)
      go s e Phase.Open w = f
      go s e Phase.Withdrawn w = f
      go State.Normal e Phase.Sending w = phase_fits _ m e f
      go State.Normal e Phase.Closing w = phase_fits _ m e f
      go State.Standby e Phase.Sending w = other State.Standby e Phase.Sending w refl refl
      go State.Standby e Phase.Closing w = other State.Standby e Phase.Closing w refl refl
      go State.Sleep e Phase.Sending w = other State.Sleep e Phase.Sending w refl refl
      go State.Sleep e Phase.Closing w = other State.Sleep e Phase.Closing w refl refl

  aged_fits : (m : Master) → Fits nodecount t m → Fits nodecount t (aged t.window m)
  aged_fits m f =
      record {
        phase = f.phase;
        delay = f.delay;
        counts = f.counts;
        holds = all_older_right nodecount t.window m.holds f.holds;
        causes = aged_out_right nodecount t.window (is_normal m.state) m.holds m.causes f.holds f.causes;
      }

  tick_fits : (m : Master) → Fits nodecount t m → Kept (tick_by t m.state m.phase m)
  tick_fits m f = go m.state refl m.phase refl
    where
      go : (s : State) → m.state ≡ s → (q : Phase) → m.phase ≡ q → Kept (tick_by t s q m)
      go State.Sleep e q w = f
      go State.Standby e q w =
          by_test Kept (ltb (m.delay + 1) t.start)
          (λ l. record { phase = f.phase; delay = rw e l; counts = f.counts; holds = f.holds; causes = f.causes })
          (λ l. record { phase = refl; delay = refl; counts = no_counts_lem; holds = f.holds; causes = no_causes_right nodecount t.window true m.holds })
      go State.Normal e Phase.Open w = f
      go State.Normal e Phase.Sending w = f
      go State.Normal e Phase.Withdrawn w = f
      go State.Normal e Phase.Closing w =
          by_test Kept (ltb (m.delay + 1) t.stop)
          (λ l. record { phase = f.phase; delay = rw (e, w) l; counts = f.counts; holds = f.holds; causes = f.causes })
          (λ l. record { phase = refl; delay = refl; counts = f.counts; holds = none_right nodecount t.window; causes = no_causes_right nodecount t.window false no_holds })

  wake_up_fits : (m : Master) → Fits nodecount t m → Kept (wake_up_by m.state m)
  wake_up_fits m f = go m.state refl
    where
      go : (s : State) → m.state ≡ s → Kept (wake_up_by s m)
      go State.Normal e = call_back_fits (drop_all m) (drop_all_fits m (ap is_normal e) f)
      go State.Standby e = f
      go State.Sleep e =
          record { phase = rw e at f.phase; delay = lt-ltb 0 t.start (omega (arith, a.start.least)); counts = f.counts; holds = f.holds; causes = rw e at f.causes }

  permission_fits : (permitted : Bool) (m : Master) → Fits nodecount t m → Kept (permission_step permitted m)
  permission_fits true m f = record { phase = f.phase; delay = f.delay; counts = f.counts; holds = f.holds; causes = f.causes }
  permission_fits false m f =
      call_back_fits (with_permission false m) (record { phase = f.phase; delay = f.delay; counts = f.counts; holds = f.holds; causes = f.causes })

  sleep_ask_fits : (sleeps : Bool) (m : Master) → Fits nodecount t m → Kept (sleep_ask_by nodecount m.state sleeps m.phase m)
  sleep_ask_fits sleeps m f = go m.state refl sleeps m.phase
    where
      go : (s : State) → m.state ≡ s → (sleeps : Bool) (q : Phase) → Kept (sleep_ask_by nodecount s sleeps q m)
      go State.Normal e true Phase.Open =
          by_test Kept m.permission
          (λ y. by_test Kept (ltb (first_to (not_held m.holds) nodecount) nodecount) (λ l. f) (λ l. phase_fits Phase.Sending m e f))
          (λ y. f)
      go State.Normal e true Phase.Sending = f
      go State.Normal e true Phase.Withdrawn = f
      go State.Normal e true Phase.Closing = f
      go State.Normal e false q = f
      go State.Standby e sleeps q = f
      go State.Sleep e sleeps q = f

  send_result_fits : (sent : Bool) (m : Master) → Fits nodecount t m → Kept (send_result_by sent m.state m.phase m)
  send_result_fits sent m f = go sent m.state refl m.phase
    where
      go : (b : Bool) (s : State) → m.state ≡ s → (q : Phase) → Kept (send_result_by b s q m)
      go b State.Normal e Phase.Open = f
      go true State.Normal e Phase.Sending = phase_fits _ m e f
      go false State.Normal e Phase.Sending = phase_fits _ m e f
      go b State.Normal e Phase.Withdrawn = phase_fits _ m e f
      go b State.Normal e Phase.Closing = f
      go b State.Standby e q = f
      go b State.Sleep e q = f

  refused_fits : (k c : ℕ) (m : Master) → is_normal m.state ≡ true → k < nodecount → leb c 4 ≡ true → Fits nodecount t m → Fits nodecount t (call_back (let_go k (with_cause c k m)))
  refused_fits k c m on l few f = call_back_fits (let_go k (with_cause c k m)) (let_go_fits k c m on l few f)

  bits_fits : (k : ℕ) (permission wake : Bool) (m : Master) → is_normal m.state ≡ true → k < nodecount → Fits nodecount t m → Fits nodecount t (act_on_bits k permission wake m)
  bits_fits k permission wake m on l f =
      by_test (Fits nodecount t) wake
      (λ w. call_back_fits (with_cause _ k (drop_all m)) (carried_fits k _ m on l refl f))
      (λ w. by_test (Fits nodecount t) permission (λ y. hold_fits k m l f) (λ y. refused_fits k _ m on l refl f))

  whole_fits : (row : Row) (x : Answer) (m : Master) → is_normal m.state ≡ true → row.publisher < nodecount → x.count < 4 → Fits nodecount t m → Kept (whole_step row x m)
  whole_fits row x m on l c f =
      by_test Kept (is_counted row)
      (λ y. bits_fits row.publisher x.permission x.wake (count_stored row.reqid x.count m) on l
      (record { phase = f.phase; delay = f.delay; counts = counts_set 5 m.counts row.reqid x.count f.counts (omega arith); holds = f.holds; causes = f.causes }))
      (λ y. bits_fits row.publisher x.permission x.wake m on l f)

  row_fits : (row : Row) (x : Answer) (m : Master) → is_normal m.state ≡ true → (eqb row.publisher master_number ≡ false → row.publisher < nodecount) → x.count < 4 → Fits nodecount t m → Kept (row_step row x m)
  row_fits row x m on l c f =
      by_test Kept (eqb row.publisher master_number)
      (λ y. f)
      (λ y. by_test Kept (eqb x.result 0)
      (λ z. by_test Kept (accepts row x.length) (λ w. whole_fits row x m on (l y) c f) (λ w. refused_fits row.publisher _ m on (l y) refl f))
      (λ z. refused_fits row.publisher _ m on (l y) refl f))

  answer_fits : (s : State) (row : Option Row) (x : Answer) (m : Master) → m.state ≡ s
      → ((r : Row) → row ≡ Some r → eqb r.publisher master_number ≡ false → r.publisher < nodecount) → x.count < 4 → Fits nodecount t m → Kept (answer_by s row x m)
  answer_fits State.Normal None x m e l c f = f
  answer_fits State.Normal (Some r) x m e l c f = row_fits r x m (ap is_normal e) (l r refl) c f
  answer_fits State.Standby row x m e l c f = f
  answer_fits State.Sleep row x m e l c f = f

-- what an event does keeps the range
pub act_fits : (p : Plan) → plan_refusal p ≡ 0 → (m : Master) (e : Event) → event_right e ≡ true → Fits p.nodecount p.times m → Fits p.nodecount p.times (act p m e).master
act_fits p ok m e r f = go e r
  where
    a : TimesFit p.times
    a = times_fit p.times (accepted p ok).times

    go : (e : Event) → event_right e ≡ true → Fits p.nodecount p.times (act p m e).master
    go Event.Tick r = tick_fits p.nodecount p.times a (aged p.times.window m) (aged_fits p.nodecount p.times a m f)
    go (Event.Answer x) r =
        answer_fits p.nodecount p.times a m.state (find_row p x.reqid) x m refl (λ row q. found_publisher p x.reqid row ok q)
        (ltb-true x.count 4 (and_r (ltb x.reqid 128) (ltb x.count 4) r)) f
    go Event.Pulse r = wake_up_fits p.nodecount p.times a m f
    go Event.WakeAsk r = wake_up_fits p.nodecount p.times a m f
    go (Event.Permission permitted) r = permission_fits p.nodecount p.times a permitted m f
    go Event.SleepAsk r = sleep_ask_fits p.nodecount p.times a (sleeps p) m f
    go (Event.SendResult sent) r = send_result_fits p.nodecount p.times a sent m f

-- and so does every step
pub range_kept : (p : Plan) → plan_refusal p ≡ 0 → (m : Master) (e : Event) → in_range (sleeps p) p.nodecount p.times m ≡ true
    → in_range (sleeps p) p.nodecount p.times (master_step p m e).master ≡ true
range_kept p ok m e r = in_range_lem (sleeps p) p.nodecount p.times _ stays (go (fits (sleeps p) p.nodecount p.times m r))
  where
    stays : sleeps p ≡ false → Awake (master_step p m e).master
    stays q = step_awake p m e q (awake p.nodecount p.times m (rw q at r))

    go : Fits p.nodecount p.times m → Fits p.nodecount p.times (master_step p m e).master
    go f =
        by_test (λ (r : Reply). Fits p.nodecount p.times r.master) (eqb (plan_refusal p) 0)
        (λ q. by_test (λ (r : Reply). Fits p.nodecount p.times r.master) (in_range (sleeps p) p.nodecount p.times m)
        (λ q. by_test (λ (r : Reply). Fits p.nodecount p.times r.master) (event_right e) (λ q. act_fits p ok m e q f) (λ q. f))
        (λ q. f))
        (λ q. f)

pub power_on_fits : (sleeps : Bool) (nodecount : ℕ) (t : Times) → in_range sleeps nodecount t (power_on sleeps) ≡ true
power_on_fits true nodecount t =
    in_range_lem true nodecount t (power_on true) (λ e. no_way (sym e))
    (record { phase = refl; delay = refl; counts = no_counts_lem; holds = none_right nodecount t.window; causes = no_causes_right nodecount t.window false no_holds })
power_on_fits false nodecount t =
    in_range_lem false nodecount t (power_on false) (λ e. refl)
    (record { phase = refl; delay = refl; counts = no_counts_lem; holds = none_right nodecount t.window; causes = no_causes_right nodecount t.window true no_holds })
