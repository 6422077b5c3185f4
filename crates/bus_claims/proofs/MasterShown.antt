-- The master of a run is as its history shows it: clock, phase, and each node's permission and cause, after every move.
use Prim.Native.Nat.{ℕ, ◌≤◌, ◌<◌, ◌+◌}
use mathlib.Core.Path.{◌≡◌, refl, sym, ap, ap₂, subst, ◌∙◌}
use mathlib.Core.Bool.{Bool, true, false, not, ◌&&◌, ◌||◌, or-false}
use mathlib.Core.List.{List, [], ◌∷◌}
use lib.Dec.{ltb, eqb}
use lib.ListN.{length, get_or, set, length-set, length-replicate, get_or-replicate}
use lib.Seq.{get_or-set_same, get_or-set_other}
use native.Mathlib.Omega.{arith}
use native.Mathlib.Decide.{ℕ_discrete}
use borrow.Author.Tests.{eqb-true, ne_eqb, eq-eqb}
use Rattle.base_lists.specs.Bounded.{if_else}
use Rattle.base_lists.proofs.AllAny.{all_at}
use Rattle.base_lists.proofs.Choices.{by_test, no_way}
use Rattle.base_lists.proofs.Tables.{get_or-tab, length-tab}
use Rattle.machine_state.specs.declared.State.{State}
use Rattle.machine_state.specs.State.{is_normal}
use Rattle.set_plan.specs.declared.Plan.{Plan}
use Rattle.set_plan.specs.declared.Row.{Row}
use Rattle.set_plan.specs.declared.Times.{Times}
use Rattle.set_plan.specs.Answering.{master_number, is_counted, accepts}
use Rattle.machine_master.specs.declared.Answer.{Answer}
use Rattle.machine_master.specs.declared.Hold.{Hold}
use Rattle.machine_master.specs.declared.Master.{Master}
use Rattle.machine_master.specs.declared.Phase.{Phase}
use Rattle.machine_master.specs.declared.Reply.{Reply}
use Rattle.machine_master.specs.Answers.{is_whole, act_on_bits, row_step}
use Rattle.machine_master.specs.Changes.{no_hold, cause_new, cause_refused, cause_damaged, cause_wake, power_on, in_phase, with_permission, with_counts, with_cause, let_go, hold, woken, woken_at, all_woken, drop_all, call_back_by, call_back}
use Rattle.machine_master.specs.Clock.{clock_on, is_off, is_closing}
use Rattle.machine_master.specs.Range.{phase_right, hold_right_at, holds_right}
use Rattle.machine_master.specs.Sleeping.{send_result_by, send_result_step}
use Rattle.machine_master.specs.Ticks.{older, older_at, all_older, aged_out, aged_out_at, all_aged_out, aged, to_normal, to_sleep, tick_by, tick_step}
use Rattle.machine_master.specs.Waking.{wake_up_by, wake_up_step, permission_step}
use Rattle.machine_master.proofs.Clock.{call_back_state}
use Rattle.machine_master.proofs.InRange.{Fits}
use Rattle.machine_master.proofs.InRun.{hold_at, NoneHeld}
use Rattle.bus.specs.declared.Passed.{Passed}
use Rattle.bus.specs.Passed.{ticked, asked, master_permits, answered, sending, slept}
use Rattle.bus_history.specs.Terms.{none, since, is_answer_of, is_wake_up, is_sending, is_stop, has_result, is_sent, is_call_back, clock_left, since_on, last_answer}
use Rattle.bus_claims.proofs.Causes as Causes
use Rattle.bus_claims.proofs.Causes.{hold_by, number_by, number_is}
use Rattle.bus_claims.proofs.Phases.{phase_shown, back_phase, call_back_phase, back_shown, pulse_shown, stop_shown, awaits, after_result, result-shown}

abbrev cause_at : Master → ℕ → ℕ
cause_at m i = get_or m.causes i cause_new

-- node i as some moves show it
pub record Node (window : ℕ) (m : Master) (moves : List Passed) (i : ℕ) : Type 0 where
  pub hold : hold_at m.holds i ≡ hold_by window (last_answer i moves) (since (is_answer_of i) moves)
  pub cause : cause_at m i ≡ number_by window (last_answer i moves) (since (is_answer_of i) moves)

pub record Shown (p : Plan) (m : Master) (past : List Passed) : Type 0 where
  pub holds : length m.holds ≡ 16
  pub causes : length m.causes ≡ 16
  pub clock : is_normal m.state ≡ clock_left past
  pub phase : m.phase ≡ phase_shown past
  -- the clock is not stopped before a result
  pub resulted : none has_result (since is_sending past) ≡ true → none is_stop (since is_sending past) ≡ true
  pub nodes : is_normal m.state ≡ true → (i : ℕ) → i < p.nodecount → Node p.times.window m (since_on past) i

call_back_holds : (m : Master) → (call_back m).holds ≡ m.holds
call_back_holds m = go m.phase
  where
    go : (q : Phase) → (call_back_by q m).holds ≡ m.holds
    go Phase.Open = refl
    go Phase.Sending = refl
    go Phase.Withdrawn = refl
    go Phase.Closing = refl

call_back_causes : (m : Master) → (call_back m).causes ≡ m.causes
call_back_causes m = go m.phase
  where
    go : (q : Phase) → (call_back_by q m).causes ≡ m.causes
    go Phase.Open = refl
    go Phase.Sending = refl
    go Phase.Withdrawn = refl
    go Phase.Closing = refl

-- outside Normal the phase is Open
open_outside : (n : ℕ) (t : Times) (m : Master) → Fits n t m → is_normal m.state ≡ false → m.phase ≡ Phase.Open
open_outside n t m f e = go m.state m.phase e f.phase
  where
    go : (s : State) (q : Phase) → is_normal s ≡ false → phase_right s q ≡ true → q ≡ Phase.Open
    go State.Normal q e h = no_way (sym e)
    go State.Standby Phase.Open e h = refl
    go State.Standby Phase.Sending e h = no_way h
    go State.Standby Phase.Withdrawn e h = no_way h
    go State.Standby Phase.Closing e h = no_way h
    go State.Sleep Phase.Open e h = refl
    go State.Sleep Phase.Sending e h = no_way h
    go State.Sleep Phase.Withdrawn e h = no_way h
    go State.Sleep Phase.Closing e h = no_way h

-- nothing is held, so each permission is as at power-on
none_there : (n window : ℕ) (m : Master) → holds_right n window m.holds ≡ true → NoneHeld m.holds → (i : ℕ) → i < 16 → hold_at m.holds i ≡ no_hold
unfolding holds_right
none_there n window m right none i small = λ j. record { held = none i small j; age = eqb-true (hold_at m.holds i).age 0 (rw (none i small) at (all_at (hold_right_at n window m.holds) 16 right i small)) j }

-- a node that a move is nothing to
node_still : (window : ℕ) (m n : Master) (moves : List Passed) (e : Passed) (i : ℕ) → is_answer_of i e ≡ false → e.tick ≡ false → is_wake_up e ≡ false
    → hold_at n.holds i ≡ hold_at m.holds i → cause_at n i ≡ cause_at m i → Node window m moves i → Node window n (e ∷ moves) i
node_still window m n moves e i a t w h c v =
    record {
      hold = h ∙ v.hold ∙ sym (rw a (Causes.hold_still window e (since (is_answer_of i) moves) (last_answer i moves) t w));
      cause = c ∙ v.cause ∙ sym (rw a (Causes.number_still window e (since (is_answer_of i) moves) (last_answer i moves) t w));
    }

-- a node at a wake-up
module _ (m : Master) (i : ℕ) (small : i < 16) where
  dropped_hold : hold_at (drop_all m).holds i ≡ no_hold
  dropped_hold = get_or-replicate 16 i no_hold no_hold small

  dropped_cause : cause_at (drop_all m) i ≡ woken (hold_at m.holds i) (cause_at m i)
  unfolding all_woken
  dropped_cause = get_or-tab 16 (woken_at m.holds m.causes) i cause_new small

node_woken : (window : ℕ) (m n : Master) (moves : List Passed) (e : Passed) (i : ℕ) → i < 16 → is_answer_of i e ≡ false → e.tick ≡ false → is_wake_up e ≡ true
    → hold_at n.holds i ≡ hold_at (drop_all m).holds i → cause_at n i ≡ cause_at (drop_all m) i → Node window m moves i → Node window n (e ∷ moves) i
node_woken window m n moves e i small a t w h c v =
    record {
      hold = h ∙ dropped_hold m i small ∙ sym (rw a (Causes.hold-woken window e (since (is_answer_of i) moves) (last_answer i moves) w));
      cause =
          c ∙ dropped_cause m i small ∙ ap₂ woken v.hold v.cause
          ∙ sym (rw a (Causes.number-woken window e (since (is_answer_of i) moves) (last_answer i moves) t w));
    }

-- a node at a tick of Normal
node_older : (window : ℕ) (m n : Master) (moves : List Passed) (e : Passed) (i : ℕ) → i < 16 → is_normal m.state ≡ true → is_answer_of i e ≡ false → e.tick ≡ true → is_wake_up e ≡ false
    → n.holds ≡ (aged window m).holds → n.causes ≡ (aged window m).causes → Node window m moves i → Node window n (e ∷ moves) i
unfolding all_older all_aged_out
node_older window m n moves e i small on a t w h c v =
    record {
      hold =
          ap (λ (l : List Hold). get_or l i no_hold) h ∙ get_or-tab 16 (older_at window m.holds) i no_hold small ∙ ap (older window) v.hold
          ∙ sym (rw a (Causes.hold-older window e (since (is_answer_of i) moves) (last_answer i moves) t w));
      cause =
          ap (λ (l : List ℕ). get_or l i cause_new) c ∙ get_or-tab 16 (aged_out_at (is_normal m.state) window m.holds m.causes) i cause_new small
          ∙ ap (λ (b : Bool). aged_out b window (hold_at m.holds i) (cause_at m i)) on ∙ ap₂ (aged_out true window) v.hold v.cause
          ∙ sym (rw a (Causes.number-older window e (since (is_answer_of i) moves) (last_answer i moves) t w));
    }

on_quiet : (e : Passed) (past : List Passed) → e.tick ≡ false → since_on (e ∷ past) ≡ e ∷ since_on past
on_quiet e past t = ap (λ (b : Bool). if_else (b && e.clock && not (clock_left past)) [] (e ∷ since_on past)) t

-- a move that is nothing to the master
pub record Quiet (e : Passed) : Type 0 where
  pub unsent : is_sending e ≡ false
  pub uncalled : is_call_back e ≡ false
  pub unresulted : has_result e ≡ false
  pub unreached : is_sent e ≡ false
  pub unstopped : is_stop e ≡ false
  pub unwoken : is_wake_up e ≡ false
  pub unanswered : (i : ℕ) → is_answer_of i e ≡ false
  pub untimed : e.tick ≡ false

module _ (p : Plan) (few : p.nodecount ≤ 16) (past : List Passed) where
  pub still : (e : Passed) (m n : Master) → Quiet e → n.state ≡ m.state → n.phase ≡ m.phase → n.holds ≡ m.holds → n.causes ≡ m.causes → Shown p m past → Shown p n (e ∷ past)
  still e m n q s f h c v =
      record {
        holds = ap length h ∙ v.holds;
        causes = ap length c ∙ v.causes;
        clock = ap is_normal s ∙ v.clock ∙ sym (rw q.untimed);
        phase = f ∙ v.phase ∙ sym (rw (q.unsent, q.uncalled, q.unresulted, q.unreached, q.unstopped));
        resulted = rw (q.unsent, q.unresulted, q.unstopped) v.resulted;
        nodes =
            λ on i l. subst (λ (moves : List Passed). Node p.times.window n moves i) (sym (on_quiet e past q.untimed))
            (node_still p.times.window m n (since_on past) e i (q.unanswered i) q.untimed q.unwoken (ap (λ (x : List Hold). get_or x i no_hold) h) (ap (λ (x : List ℕ). get_or x i cause_new) c)
            (v.nodes (ap is_normal (sym s) ∙ on) i l));
      }

  -- the master's own ask, or a pulse that reaches it
  pub wake_up : (m : Master) → Fits p.nodecount p.times m → Shown p m past → Shown p (wake_up_step m).master (asked true ∷ past)
  unfolding all_woken
  wake_up m f v = go m.state refl
    where
      go : (s : State) → m.state ≡ s → Shown p (wake_up_by s m).master (asked true ∷ past)
      go State.Normal e =
          let n = drop_all m in
          record {
            holds = ap length (call_back_holds n) ∙ length-replicate 16 no_hold;
            causes = ap length (call_back_causes n) ∙ length-tab 16 (woken_at m.holds m.causes);
            clock = ap is_normal (call_back_state n) ∙ v.clock;
            phase = call_back_phase n ∙ ap back_phase v.phase ∙ sym (back_shown (asked true) past refl refl refl refl refl);
            resulted = v.resulted;
            nodes =
                λ on i l. node_woken p.times.window m (call_back n) (since_on past) (asked true) i (omega (arith, few, l)) refl refl refl
                (ap (λ (x : List Hold). get_or x i no_hold) (call_back_holds n)) (ap (λ (x : List ℕ). get_or x i cause_new) (call_back_causes n)) (v.nodes (ap is_normal e) i l);
          }
      go State.Sleep e =
          let o = open_outside p.nodecount p.times m f (ap is_normal e) in
          record {
            holds = v.holds;
            causes = v.causes;
            clock = sym (ap is_normal e) ∙ v.clock;
            phase = o ∙ ap back_phase (sym o ∙ v.phase) ∙ sym (back_shown (asked true) past refl refl refl refl refl);
            resulted = v.resulted;
            nodes = λ on i l. no_way on;
          }
      go State.Standby e =
          let o = open_outside p.nodecount p.times m f (ap is_normal e) in
          record {
            holds = v.holds;
            causes = v.causes;
            clock = v.clock;
            phase = o ∙ ap back_phase (sym o ∙ v.phase) ∙ sym (back_shown (asked true) past refl refl refl refl refl);
            resulted = v.resulted;
            nodes = λ on i l. no_way (sym (ap is_normal e) ∙ on);
          }

  -- the application's permission
  pub permission : (word : Bool) (m : Master) → Shown p m past → Shown p (permission_step word m).master (master_permits word ∷ past)
  permission true m v =
      still (master_permits true) m (with_permission true m)
      (record { unsent = refl; uncalled = refl; unresulted = refl; unreached = refl; unstopped = refl; unwoken = refl; unanswered = λ i. refl; untimed = refl }) refl refl refl refl v
  permission false m v =
      let n = with_permission false m in
      record {
        holds = ap length (call_back_holds n) ∙ v.holds;
        causes = ap length (call_back_causes n) ∙ v.causes;
        clock = ap is_normal (call_back_state n) ∙ v.clock;
        phase = call_back_phase n ∙ ap back_phase v.phase ∙ sym (back_shown (master_permits false) past refl refl refl refl refl);
        resulted = v.resulted;
        nodes =
            λ on i l. node_still p.times.window m (call_back n) (since_on past) (master_permits false) i refl refl refl
            (ap (λ (x : List Hold). get_or x i no_hold) (call_back_holds n)) (ap (λ (x : List ℕ). get_or x i cause_new) (call_back_causes n))
            (v.nodes (sym (ap is_normal (call_back_state n)) ∙ on) i l);
      }

  -- a result that is not refused
  pub result : (sent : Bool) (reached : List Bool) (m : Master) → (send_result_step sent m).refusal ≡ 0 → Shown p m past → Shown p (send_result_step sent m).master (slept sent reached ∷ past)
  result sent reached m z v = go sent m.state m.phase refl refl z
    where
      -- in another phase
      in_phase_lem : (sent : Bool) (q : Phase) → m.phase ≡ q → awaits q ≡ true → (r : Phase) → r ≡ after_result sent q → Shown p (in_phase r m) (slept sent reached ∷ past)
      in_phase_lem sent q f a r e =
          let shown = result-shown sent reached past v.resulted (ap awaits (sym v.phase ∙ f) ∙ a) ∙ ap (after_result sent) (sym v.phase ∙ f) in
          record {
            holds = v.holds;
            causes = v.causes;
            clock = v.clock;
            phase = e ∙ sym shown;
            resulted = known sent;
            nodes = λ on i l. node_still p.times.window m (in_phase r m) (since_on past) (slept sent reached) i refl refl refl refl refl (v.nodes on i l);
          }
        where
          known : (sent : Bool) → none has_result (since is_sending (slept sent reached ∷ past)) ≡ true → none is_stop (since is_sending (slept sent reached ∷ past)) ≡ true
          known true h = no_way h
          known false h = no_way h

      go : (sent : Bool) (s : State) (q : Phase) → m.state ≡ s → m.phase ≡ q → (send_result_by sent s q m).refusal ≡ 0 → Shown p (send_result_by sent s q m).master (slept sent reached ∷ past)
      go sent State.Normal Phase.Open e f z = absurd (omega (arith, z))
      go true State.Normal Phase.Sending e f z = in_phase_lem true Phase.Sending f refl Phase.Closing refl
      go false State.Normal Phase.Sending e f z = in_phase_lem false Phase.Sending f refl Phase.Open refl
      go sent State.Normal Phase.Withdrawn e f z = in_phase_lem sent Phase.Withdrawn f refl Phase.Open refl
      go sent State.Normal Phase.Closing e f z = absurd (omega (arith, z))
      go sent State.Standby q e f z = absurd (omega (arith, z))
      go sent State.Sleep q e f z = absurd (omega (arith, z))

  -- a message goes out
  pub sends : (m : Master) → Shown p m past → Shown p (in_phase Phase.Sending m) (sending ∷ past)
  sends m v =
      record {
        holds = v.holds;
        causes = v.causes;
        clock = v.clock;
        phase = refl;
        resulted = λ h. refl;
        nodes = λ on i l. node_still p.times.window m (in_phase Phase.Sending m) (since_on past) sending i refl refl refl refl refl (v.nodes on i l);
      }

  -- a tick, before its pulses
  pub tick : (m : Master) → Fits p.nodecount p.times m → (is_normal m.state ≡ false → NoneHeld m.holds) → Shown p m past
      → Shown p (tick_step p.times m).master (ticked (clock_on (tick_step p.times m).master) (is_off (tick_step p.times m).command) false ∷ past)
  unfolding all_older all_aged_out
  tick m f outside v = go m.state m.phase refl refl
    where
      t : Times
      t = p.times

      n : Master
      n = aged t.window m

      holds_long : length n.holds ≡ 16
      holds_long = length-tab 16 (older_at t.window m.holds)

      causes_long : length n.causes ≡ 16
      causes_long = length-tab 16 (aged_out_at (is_normal m.state) t.window m.holds m.causes)

      P : Reply → Type 0
      P r = Shown p r.master (ticked (clock_on r.master) (is_off r.command) false ∷ past)

      -- it stays as it is
      stays : (k : Master) → k.state ≡ m.state → k.phase ≡ m.phase → k.holds ≡ n.holds → k.causes ≡ n.causes → Shown p k (ticked (clock_on k) false false ∷ past)
      stays k s q h c =
          record {
            holds = ap length h ∙ holds_long;
            causes = ap length c ∙ causes_long;
            clock = refl;
            phase = q ∙ v.phase;
            resulted = v.resulted;
            nodes = each;
          }
        where
          each : is_normal k.state ≡ true → (i : ℕ) → i < p.nodecount → Node p.times.window k (since_on (ticked (clock_on k) false false ∷ past)) i
          each on i l =
              let normal : is_normal m.state ≡ true = ap is_normal (sym s) ∙ on in
              let left : clock_left past ≡ true = sym v.clock ∙ normal in
              subst (λ (moves : List Passed). Node p.times.window k moves i) (sym (ap₂ (λ (a b : Bool). if_else (true && a && not b) [] (ticked (clock_on k) false false ∷ since_on past)) on left))
              (node_older p.times.window m k (since_on past) (ticked (clock_on k) false false) i (omega (arith, few, l)) normal refl refl refl h c (v.nodes normal i l))

      -- the clock is switched on
      starts : m.state ≡ State.Standby → Shown p (to_normal n) (ticked true false false ∷ past)
      starts e =
          record {
            holds = holds_long;
            causes = length-replicate 16 cause_new;
            clock = refl;
            phase = sym (open_outside p.nodecount t m f off) ∙ v.phase;
            resulted = v.resulted;
            nodes =
                λ on i l. subst (λ (moves : List Passed). Node p.times.window (to_normal n) moves i)
                (sym (ap (λ (b : Bool). if_else (true && true && not b) [] (ticked true false false ∷ since_on past)) (sym v.clock ∙ off))) (new i (omega (arith, few, l)));
          }
        where
          off : is_normal m.state ≡ false
          off = ap is_normal e

          new : (i : ℕ) → i < 16 → Node p.times.window (to_normal n) [] i
          new i small =
              record {
                hold = get_or-tab 16 (older_at t.window m.holds) i no_hold small ∙ ap (older t.window) (none_there p.nodecount t.window m f.holds (outside off) i small);
                cause = get_or-replicate 16 i cause_new cause_new small;
              }

      -- the clock is stopped
      stops : m.phase ≡ Phase.Closing → Shown p (to_sleep n) (ticked false true false ∷ past)
      stops q =
          let g = stop_shown (ticked false true false) past refl refl refl refl (ap is_closing (sym v.phase ∙ q)) in
          record {
            holds = length-replicate 16 no_hold;
            causes = length-replicate 16 cause_new;
            clock = refl;
            phase = sym g.0;
            resulted = λ h. no_way (sym g.1 ∙ h);
            nodes = λ on i l. no_way on;
          }

      go : (s : State) (q : Phase) → m.state ≡ s → m.phase ≡ q → P (tick_by t s q n)
      go State.Sleep q e f = stays n refl refl refl refl
      go State.Standby q e f = by_test P (ltb (m.delay + 1) t.start) (λ l. stays _ refl refl refl refl) (λ l. starts e)
      go State.Normal Phase.Open e f = stays n refl refl refl refl
      go State.Normal Phase.Sending e f = stays n refl refl refl refl
      go State.Normal Phase.Withdrawn e f = stays n refl refl refl refl
      go State.Normal Phase.Closing e f = by_test P (ltb (m.delay + 1) t.stop) (λ l. stays _ refl refl refl refl) (λ l. stops f)

  -- and with them
  pub pulse : (clock stop : Bool) (m : Master) → Fits p.nodecount p.times m → Shown p m (ticked clock stop false ∷ past) → Shown p (wake_up_step m).master (ticked clock stop true ∷ past)
  unfolding all_woken
  pulse clock stop m f v = go m.state refl
    where
      e₀ : Passed
      e₀ = ticked clock stop false

      e₁ : Passed
      e₁ = ticked clock stop true

      -- node i, whether the tick switched the clock on or not
      each : is_normal m.state ≡ true → (i : ℕ) → i < p.nodecount → (b : Bool) → Node p.times.window m (if_else b [] (e₀ ∷ since_on past)) i → Node p.times.window (call_back (drop_all m)) (if_else b [] (e₁ ∷ since_on past)) i
      each on i l b g = by b g
        where
          small : i < 16
          small = omega (arith, few, l)

          holds : hold_at (call_back (drop_all m)).holds i ≡ no_hold
          holds = ap (λ (x : List Hold). get_or x i no_hold) (call_back_holds (drop_all m)) ∙ dropped_hold m i small

          causes : cause_at (call_back (drop_all m)) i ≡ woken (hold_at m.holds i) (cause_at m i)
          causes = ap (λ (x : List ℕ). get_or x i cause_new) (call_back_causes (drop_all m)) ∙ dropped_cause m i small

          by : (b : Bool) → Node p.times.window m (if_else b [] (e₀ ∷ since_on past)) i → Node p.times.window (call_back (drop_all m)) (if_else b [] (e₁ ∷ since_on past)) i
          by true g = record { hold = holds; cause = causes ∙ ap₂ woken g.hold g.cause }
          by false g =
              record {
                hold = holds ∙ sym (Causes.hold-woken p.times.window e₁ (since (is_answer_of i) (since_on past)) (last_answer i (since_on past)) refl);
                cause =
                    causes ∙ ap₂ woken g.hold g.cause
                    ∙ sym (Causes.number_pulse p.times.window e₀ (since (is_answer_of i) (since_on past)) (last_answer i (since_on past)) e₁ refl refl refl refl);
              }

      outside : m.phase ≡ Phase.Open → m.phase ≡ phase_shown (ticked clock stop true ∷ past)
      outside o = o ∙ ap back_phase (sym o ∙ v.phase) ∙ sym (pulse_shown clock stop past)

      go : (s : State) → m.state ≡ s → Shown p (wake_up_by s m).master (ticked clock stop true ∷ past)
      go State.Normal e =
          record {
            holds = ap length (call_back_holds (drop_all m)) ∙ length-replicate 16 no_hold;
            causes = ap length (call_back_causes (drop_all m)) ∙ length-tab 16 (woken_at m.holds m.causes);
            clock = ap is_normal (call_back_state (drop_all m)) ∙ v.clock;
            phase = call_back_phase (drop_all m) ∙ ap back_phase v.phase ∙ sym (pulse_shown clock stop past);
            resulted = v.resulted;
            nodes = λ on i l. each (ap is_normal e) i l (true && clock && not (clock_left past)) (v.nodes (ap is_normal e) i l);
          }
      go State.Sleep e =
          record {
            holds = v.holds;
            causes = v.causes;
            clock = sym (ap is_normal e) ∙ v.clock;
            phase = outside (open_outside p.nodecount p.times m f (ap is_normal e));
            resulted = v.resulted;
            nodes = λ on i l. no_way on;
          }
      go State.Standby e =
          record {
            holds = v.holds;
            causes = v.causes;
            clock = v.clock;
            phase = outside (open_outside p.nodecount p.times m f (ap is_normal e));
            resulted = v.resulted;
            nodes = λ on i l. no_way (sym (ap is_normal e) ∙ on);
          }

  -- an answer that reaches the master in Normal
  pub answer : (row : Row) (a : Answer) (m : Master) → is_normal m.state ≡ true → row.publisher < p.nodecount → Shown p m past → Shown p (row_step row a m).master (answered row a ∷ past)
  unfolding all_woken
  answer row a m on l v =
      by_test P (eqb row.publisher master_number)
      (λ e. absurd (omega (arith, few, l, eqb-true row.publisher master_number e)))
      (λ e. by_test P (eqb a.result 0)
      (λ z. by_test P (accepts row a.length)
      (λ w. by_test P (is_counted row) (λ c. whole (set m.counts row.reqid a.count) (rw (z, w))) (λ c. whole m.counts (rw (z, w))))
      (λ w. damage (rw (z, w))))
      (λ z. damage (rw z)))
    where
      P : Reply → Type 0
      P r = Shown p r.master (answered row a ∷ past)

      P' : Master → Type 0
      P' n = Shown p n (answered row a ∷ past)

      j : ℕ
      j = row.publisher

      e : Passed
      e = answered row a

      -- what it does to a sleep message: all but a permission calls back
      back_bits : (w k g : Bool) → (w && k || false || not w || w && not g || false) ≡ not (w && not k && g)
      back_bits true true true = refl
      back_bits true true false = refl
      back_bits true false true = refl
      back_bits true false false = refl
      back_bits false k g = refl

      backs : is_call_back e ≡ not (is_whole row a && not a.wake && a.permission)
      backs = back_bits (is_whole row a) a.wake a.permission

      called : (is_whole row a && not a.wake && a.permission) ≡ false → phase_shown (e ∷ past) ≡ back_phase (phase_shown past)
      called q = back_shown e past refl (backs ∙ ap not q) refl refl refl

      calm : (is_whole row a && not a.wake && a.permission) ≡ true → phase_shown past ≡ phase_shown (e ∷ past)
      calm q = sym (rw (backs ∙ ap not q))

      -- its publisher, by the answer alone
      own : (n : Master) (h : Hold) (c : ℕ) → hold_at n.holds j ≡ h → cause_at n j ≡ c
          → if_else (is_whole row a && not a.wake && a.permission) (Causes.given 0) no_hold ≡ h → number_is (is_whole row a) a.wake a.permission true true true ≡ c
          → Node p.times.window n (e ∷ since_on past) j
      own n h c x y f g =
          record {
            hold = x ∙ sym f ∙ sym (rw (eq-eqb j j refl) (Causes.hold-answer p.times.window row a));
            cause = y ∙ sym g ∙ sym (rw (eq-eqb j j refl) (Causes.number-answer p.times.window row a));
          }

      -- a master that differs in its nodes, counts and perhaps phase
      so : (n : Master) → n.state ≡ m.state → length n.holds ≡ 16 → length n.causes ≡ 16 → n.phase ≡ phase_shown (e ∷ past)
          → Node p.times.window n (e ∷ since_on past) j → ((i : ℕ) → i < p.nodecount → (i ≡ j → ⊥) → Node p.times.window n (e ∷ since_on past) i) → Shown p n (e ∷ past)
      so n s h c f this others =
          record {
            holds = h;
            causes = c;
            clock = ap is_normal s ∙ v.clock;
            phase = f;
            resulted = v.resulted;
            nodes = λ on i l. at i l (ℕ_discrete i j);
          }
        where
          at : (i : ℕ) → i < p.nodecount → Dec (i ≡ j) → Node p.times.window n (e ∷ since_on past) i
          at i l (yes q) = subst (Node p.times.window n (e ∷ since_on past)) (sym q) this
          at i l (no q) = others i l q

      unlike : (i : ℕ) → (i ≡ j → ⊥) → is_answer_of i e ≡ false
      unlike i q = ne_eqb j i (λ x. q (sym x))

      -- one node's place changed, the others as they were
      changed : (n : Master) (h : Hold) (c : ℕ) → n.state ≡ m.state → n.phase ≡ phase_shown (e ∷ past) → n.holds ≡ set m.holds j h → n.causes ≡ set m.causes j c → is_wake_up e ≡ false
          → if_else (is_whole row a && not a.wake && a.permission) (Causes.given 0) no_hold ≡ h → number_is (is_whole row a) a.wake a.permission true true true ≡ c → Shown p n (e ∷ past)
      changed n h c s f x y w g k =
          so n s (ap length x ∙ length-set m.holds j h ∙ v.holds) (ap length y ∙ length-set m.causes j c ∙ v.causes) f
          (own n h c (ap (λ (q : List Hold). get_or q j no_hold) x ∙ get_or-set_same m.holds j h no_hold (omega (arith, v.holds, few, l)))
          (ap (λ (q : List ℕ). get_or q j cause_new) y ∙ get_or-set_same m.causes j c cause_new (omega (arith, v.causes, few, l))) g k)
          (λ i b q. node_still p.times.window m n (since_on past) e i (unlike i q) refl w
          (ap (λ (z : List Hold). get_or z i no_hold) x ∙ get_or-set_other m.holds j i h no_hold q)
          (ap (λ (z : List ℕ). get_or z i cause_new) y ∙ get_or-set_other m.causes j i c cause_new q) (v.nodes on i b))

      -- let go, by damage or by a no
      lost : (cause : ℕ) (counts : List ℕ) → (is_whole row a && not a.wake && a.permission) ≡ false → (is_whole row a && a.wake) ≡ false
          → number_is (is_whole row a) a.wake a.permission true true true ≡ cause → P' (call_back (let_go j (with_cause cause j (with_counts counts m))))
      lost cause counts q w k =
          let n = let_go j (with_cause cause j (with_counts counts m)) in
          changed (call_back n) no_hold cause (call_back_state n) (call_back_phase n ∙ ap back_phase v.phase ∙ sym (called q)) (call_back_holds n) (call_back_causes n) (or-false (is_whole row a && a.wake) ∙ w)
          (ap (λ (b : Bool). if_else b (Causes.given 0) no_hold) q) k

      damage : is_whole row a ≡ false → P' (call_back (let_go j (with_cause cause_damaged j m)))
      damage z = lost cause_damaged m.counts (rw z) (rw z) (rw z)

      -- "wake bit 1: let all go, call back"
      wakes : (counts : List ℕ) → is_whole row a ≡ true → a.wake ≡ true → P' (call_back (with_cause cause_wake j (drop_all (with_counts counts m))))
      wakes counts z x =
          let n = with_cause cause_wake j (drop_all (with_counts counts m)) in
          let long : length (all_woken m.holds m.causes) ≡ 16 = length-tab 16 (woken_at m.holds m.causes) in
          so (call_back n) (call_back_state n) (ap length (call_back_holds n) ∙ length-replicate 16 no_hold)
          (ap length (call_back_causes n) ∙ length-set (all_woken m.holds m.causes) j cause_wake ∙ long) (call_back_phase n ∙ ap back_phase v.phase ∙ sym (called (rw (z, x))))
          (own (call_back n) no_hold cause_wake (ap (λ (q : List Hold). get_or q j no_hold) (call_back_holds n) ∙ get_or-replicate 16 j no_hold no_hold (omega (arith, few, l)))
          (ap (λ (q : List ℕ). get_or q j cause_new) (call_back_causes n) ∙ get_or-set_same (all_woken m.holds m.causes) j cause_wake cause_new (omega (arith, long, few, l))) (rw (z, x)) (rw (z, x)))
          (λ i b q. node_woken p.times.window m (call_back n) (since_on past) e i (omega (arith, few, b)) (unlike i q) refl (rw (z, x)) (ap (λ (y : List Hold). get_or y i no_hold) (call_back_holds n))
          (ap (λ (y : List ℕ). get_or y i cause_new) (call_back_causes n) ∙ get_or-set_other (all_woken m.holds m.causes) j i cause_wake cause_new q) (v.nodes on i b))

      whole : (counts : List ℕ) → is_whole row a ≡ true → P' (act_on_bits j a.permission a.wake (with_counts counts m))
      whole counts z =
          by_test P' a.wake (λ x. wakes counts z x)
          (λ x. by_test P' a.permission
          (λ y. changed (hold j (with_cause cause_new j (with_counts counts m))) (Causes.given 0) cause_new refl (v.phase ∙ calm (rw (z, x, y))) refl refl (rw (z, x)) (rw (z, x, y)) (rw (z, x, y)))
          (λ y. lost cause_refused counts (rw (z, x, y)) (rw (z, x)) (rw (z, x, y))))

pub power_on_lem : (p : Plan) → Shown p (power_on true) []
power_on_lem p =
    record {
      holds = length-replicate 16 no_hold;
      causes = length-replicate 16 cause_new;
      clock = refl;
      phase = refl;
      resulted = λ h. refl;
      nodes = λ on i l. no_way on;
    }
