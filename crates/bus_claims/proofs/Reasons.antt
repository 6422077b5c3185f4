-- After every list of moves the reason that is told of the master is the one that the list shows.
use Prim.Native.Nat.{ℕ, ◌<◌}
use mathlib.Core.Path.{◌≡◌, refl, sym, ap, ap₂, subst, ◌∙◌}
use mathlib.Core.Bool.{Bool, true, false, not}
use mathlib.Core.List.{List}
use lib.Dec.{ltb}
use lib.ListN.{get_or}
use borrow.Author.Tests.{ltb-true, eq-eqb, not-true}
use Rattle.base_lists.specs.Bounded.{if_else, first_to}
use Rattle.base_lists.proofs.First.{first_same, first_holds}
use Rattle.machine_state.specs.declared.State.{State}
use Rattle.machine_state.specs.State.{is_normal}
use Rattle.set_plan.specs.declared.Plan.{Plan}
use Rattle.set_plan.specs.Profile.{sleeps}
use Rattle.set_plan.specs.Rules.{plan_refusal}
use Rattle.machine_master.specs.declared.Hold.{Hold}
use Rattle.machine_master.specs.declared.Master.{Master}
use Rattle.machine_master.specs.declared.Phase.{Phase}
use Rattle.machine_master.specs.Changes.{no_hold, cause_new}
use Rattle.machine_master.specs.Sleeping.{not_held}
use Rattle.machine_master.proofs.Awake.{Awake, awake_normal}
use Rattle.machine_master.proofs.InRange as MasterRange
use Rattle.machine_master.proofs.InRun as InRun
use Rattle.machine_reason.specs.declared.Cause.{Cause}
use Rattle.machine_reason.specs.declared.Reason.{Reason}
use Rattle.machine_reason.specs.Numbers.{cause_number}
use Rattle.machine_reason.specs.Reasons.{cause_of, node_reason, reason_by, explained_by, refused, explain_by, explain}
use Rattle.bus.specs.declared.Move.{Move}
use Rattle.bus.specs.declared.Passed.{Passed}
use Rattle.bus_history.specs.Run.{run}
use Rattle.bus_history.specs.Terms.{since, is_answer_of, ticks_in, clock_left, since_on}
use Rattle.bus_claims.specs.Reasons.{held_since, cause_since, first_missing, node_shown, under_way, owed, reason_shown, ReasonShown}
use Rattle.bus_claims.proofs.Awake.{run-awake}
use Rattle.bus_claims.proofs.Causes.{given}
use Rattle.bus_claims.proofs.ClaimsHold.{run_by_past}
use Rattle.bus_claims.proofs.Masters.{MasterByPast, own_word}
use Rattle.bus_claims.proofs.Phases.{is_owed, under_way-shown, owed-shown}
use Rattle.bus_claims.proofs.MasterShown.{Node, Shown}

-- a cause and its number
cause_back : (c : Cause) → cause_of (cause_number c) ≡ c
cause_back Cause.New = refl
cause_back Cause.Refused = refl
cause_back Cause.Aged = refl
cause_back Cause.Damaged = refl
cause_back Cause.Woken = refl

-- the order of the reasons, by what a phase is called
by_phase : (n : ℕ) (q : Phase) (m : Master) → reason_by true n q m ≡ if_else (InRun.is_under_way q) Reason.UnderWay (if_else (is_owed q) Reason.Owed (if_else m.permission (node_reason n m) Reason.Own))
by_phase n Phase.Open m = refl
by_phase n Phase.Sending m = refl
by_phase n Phase.Withdrawn m = refl
by_phase n Phase.Closing m = refl

by_state : (sleeps : Bool) (n : ℕ) (s : State) (m : Master) → explain_by sleeps n s m ≡ if_else (is_normal s) (explained_by (reason_by sleeps n m.phase m)) (refused 16)
by_state sleeps n State.Normal m = refl
by_state sleeps n State.Standby m = refl
by_state sleeps n State.Sleep m = refl

module _ (p : Plan) (m : Master) (past : List Passed) where
  -- a node that is not held is shown so, and its cause is the one that is stored
  held_same : (i : ℕ) → Node p.times.window m (since_on past) i → not_held m.holds i ≡ not (held_since p i past)
  unfolding not_held
  held_same i v = ap (λ (h : Hold). not h.held) v.hold ∙ go (ticks_in (since (is_answer_of i) (since_on past))) (held_since p i past)
    where
      go : (age : ℕ) (b : Bool) → not (if_else b (given age) no_hold).held ≡ not b
      go age true = refl
      go age false = refl

  cause_same : (i : ℕ) → held_since p i past ≡ false → Node p.times.window m (since_on past) i → cause_of (get_or m.causes i cause_new) ≡ cause_since p i past
  cause_same i h v = ap cause_of (v.cause ∙ ap (λ (b : Bool). if_else b cause_new (cause_number (cause_since p i past))) h) ∙ cause_back (cause_since p i past)

  nodes_same : ((i : ℕ) → i < p.nodecount → Node p.times.window m (since_on past) i) → node_reason p.nodecount m ≡ node_shown p past
  nodes_same each =
      ap (λ (f : ℕ). if_else (ltb f n) (Reason.Node f (cause_of (get_or m.causes f cause_new))) Reason.Nothing) first ∙ go (ltb (first_missing p past) n) refl
    where
      n : ℕ
      n = p.nodecount

      first : first_to (not_held m.holds) n ≡ first_missing p past
      first = first_same (not_held m.holds) (λ i. not (held_since p i past)) n (λ i l. held_same i (each i l))

      go : (b : Bool) → ltb (first_missing p past) n ≡ b
          → if_else b (Reason.Node (first_missing p past) (cause_of (get_or m.causes (first_missing p past) cause_new))) Reason.Nothing
          ≡ if_else b (Reason.Node (first_missing p past) (cause_since p (first_missing p past) past)) Reason.Nothing
      go true e =
          let l = ltb-true (first_missing p past) n e in
          ap (Reason.Node (first_missing p past))
          (cause_same (first_missing p past) (not-true _ (first_holds (λ i. not (held_since p i past)) n l)) (each (first_missing p past) l))
      go false e = refl

module _ (p : Plan) (ok : plan_refusal p ≡ 0) where
  -- a master in range is explained by its state
  judged : (m : Master) → (sleeps p ≡ false → Awake m) → MasterRange.Fits p.nodecount p.times m
      → explain p m ≡ if_else (is_normal m.state) (explained_by (reason_by (sleeps p) p.nodecount m.phase m)) (refused 16)
  judged m a f =
      rw (eq-eqb (plan_refusal p) 0 ok, MasterRange.in_range_lem (sleeps p) p.nodecount p.times m a f) (by_state (sleeps p) p.nodecount m.state m)

  -- of machines that never sleep
  of_awake : (m : Master) → Awake m → if_else (is_normal m.state) (explained_by (reason_by false p.nodecount m.phase m)) (refused 16) ≡ explained_by Reason.Profile
  of_awake m a = rw (awake_normal m a)

  -- and of those that do
  of_master : (m : Master) (past : List Passed) (s : Shown p m past) → MasterByPast p m past
      → if_else (is_normal m.state) (explained_by (reason_by true p.nodecount m.phase m)) (refused 16) ≡ if_else (clock_left past) (explained_by (reason_shown p past)) (refused 16)
  of_master m past s v = go (clock_left past) s.clock
    where
      same : is_normal m.state ≡ true → reason_by true p.nodecount m.phase m ≡ reason_shown p past
      same on =
          by_phase p.nodecount m.phase m
          ∙ ap (λ (b : Bool). if_else b Reason.UnderWay (if_else (is_owed m.phase) Reason.Owed (if_else m.permission (node_reason p.nodecount m) Reason.Own)))
          (ap InRun.is_under_way s.phase ∙ sym (under_way-shown past))
          ∙ ap (λ (b : Bool). if_else (under_way past) Reason.UnderWay (if_else b Reason.Owed (if_else m.permission (node_reason p.nodecount m) Reason.Own)))
          (ap is_owed s.phase ∙ sym (owed-shown past))
          ∙ ap₂ (λ (b : Bool) (r : Reason). if_else (under_way past) Reason.UnderWay (if_else (owed past) Reason.Owed (if_else b r Reason.Own)))
          (own_word p m past v) (nodes_same p m past (s.nodes on))

      go : (b : Bool) → is_normal m.state ≡ b → if_else (is_normal m.state) (explained_by (reason_by true p.nodecount m.phase m)) (refused 16) ≡ if_else b (explained_by (reason_shown p past)) (refused 16)
      go true on = rw on (ap explained_by (same on))
      go false off = rw off

  pub reasons : (moves : List Move) → ReasonShown p moves
  reasons moves = judged m awake v.fits ∙ go (sleeps p) refl
    where
      m : Master
      m = (run p moves).world.master

      v : MasterByPast p m (run p moves).past
      v = (run_by_past p ok moves).master

      awake : sleeps p ≡ false → Awake m
      awake never = (run-awake p ok never moves).awake.master

      Same : Bool → Type 0
      Same s =
          if_else (is_normal m.state) (explained_by (reason_by s p.nodecount m.phase m)) (refused 16)
          ≡ if_else s (if_else (clock_left (run p moves).past) (explained_by (reason_shown p (run p moves).past)) (refused 16)) (explained_by Reason.Profile)

      go : (s : Bool) → sleeps p ≡ s → Same (sleeps p)
      go true e = subst Same (sym e) (of_master m (run p moves).past (v.shown e) v)
      go false e = subst Same (sym e) (of_awake m (awake e))
