-- A chain of calls is a chain of steps.
use Prim.Native.Nat.{ℕ, ◌+◌, ◌≤◌}
use mathlib.Core.Path.{◌≡◌, refl, ap, sym, ◌∙◌}
use mathlib.Core.Bool.{Bool, true, false}
use mathlib.Core.List.{List, [], ◌∷◌, ◌++◌, append-nil, map}
use lib.ListN.{length, drop_of_length-le}
use lib.Seq.{sets, sets-eq}
use lib.Dec.{eqb}
use native.Mathlib.Omega.{arith}
use borrow.Author.Tests.{ne_eqb, le-ltb, eqb-false}
use Rattle.base_lists.specs.FirstBroken.{first_broken}
use Rattle.set_plan.specs.declared.Plan.{Plan}
use Rattle.set_plan.specs.Profile.{profile_right, sleeps}
use Rattle.set_plan.specs.Rules.{revision_right, times_right, nodes_right, rows_right, all_publish, plan_refusal}
use Rattle.set_record.specs.Record.{record_of}
use Rattle.machine_master.specs.declared.Master.{Master}
use Rattle.machine_master.specs.declared.Reply as MasterReply
use Rattle.machine_master.specs.Changes as MasterChanges
use Rattle.machine_master.specs.Step.{master_step}
use Rattle.machine_master.proofs.TableLengths as MasterPlaces
use Rattle.machine_master.proofs.Refusals as MasterRefusals
use Rattle.packed_master.specs.Events as MasterEvents
use Rattle.packed_master.specs.States.{master_bytes}
use Rattle.packed_master.proofs.StateTrips as MasterTrips
use Rattle.machine_node.specs.declared.Node.{Node}
use Rattle.machine_node.specs.declared.Reply as NodeReply
use Rattle.machine_node.specs.Changes as NodeChanges
use Rattle.machine_node.specs.Step.{node_step}
use Rattle.machine_node.proofs.TableLengths as NodePlaces
use Rattle.machine_node.proofs.Refusals as NodeRefusals
use Rattle.packed_node.specs.Events as NodeEvents
use Rattle.packed_node.specs.States.{node_bytes}
use Rattle.packed_node.proofs.StateTrips as NodeTrips
use Rattle.cxpi.specs.MasterCalls.{master_reply, changes_state, master_leaves}
use Rattle.cxpi.specs.NodeCalls.{node_reply, node_leaves}
use Rattle.cxpi.specs.Chains.{master_calls, node_calls, master_run, node_run}

-- a whole state over another
over : (l v : List ℕ) → length v ≡ length l → sets l 0 v ≡ v
over l v n = sets-eq v l 0 (omega arith) ∙ ap (λ r. v ++ r) (drop_of_length-le l {i = 0 + length v} (omega arith)) ∙ append-nil v

-- the plan's numbers are none that changes a state
plan-number : (a b c d e f : Bool) → first_broken 3 (a ∷ b ∷ c ∷ d ∷ e ∷ f ∷ []) ≤ 8
plan-number false b c d e f = omega arith
plan-number true false c d e f = omega arith
plan-number true true false d e f = omega arith
plan-number true true true false e f = omega arith
plan-number true true true true false f = omega arith
plan-number true true true true true false = omega arith
plan-number true true true true true true = omega arith

at_most_8 : (p : Plan) → plan_refusal p ≤ 8
unfolding plan_refusal
at_most_8 p = plan-number (profile_right p.profile) (revision_right p) (times_right p.times) (nodes_right p) (rows_right p) (all_publish p)

other_number : (x : ℕ) → (x ≡ 0 → ⊥) → x ≤ 8 → changes_state x ≡ false
other_number x n h = rw (ne_eqb x 0 n, ne_eqb x 13 (λ z. omega arith), ne_eqb x 14 (λ z. omega arith))

-- a number that changes no state is not one of these
is_not : (x k : ℕ) → changes_state x ≡ false → changes_state k ≡ true → x ≡ k → ⊥
is_not x k e f z =
    let y : true ≡ false = sym f ∙ sym (ap changes_state z) ∙ e in
    absurd (let w : ◌≡◌ {A = ℕ} 0 1 = cc in omega arith)

module _ (r : MasterReply.Reply) (m : Master) (plain : MasterRefusals.Plain m r) (h : MasterPlaces.Placed m) (k : MasterPlaces.Placed r.master) where
  master_left : master_leaves r (master_bytes m) ≡ master_bytes r.master
  master_left = go (changes_state r.refusal) refl
    where
      go : (b : Bool) → changes_state r.refusal ≡ b → master_leaves r (master_bytes m) ≡ master_bytes r.master
      go true e = rw e (over (master_bytes m) (master_bytes r.master) (MasterTrips.packed_long r.master k.holds k.counts k.causes ∙ sym (MasterTrips.packed_long m h.holds h.counts h.causes)))
      go false e = rw e (ap master_bytes (sym (plain.same (is_not r.refusal 0 e refl) (is_not r.refusal 13 e refl) (is_not r.refusal 14 e refl))))

module _ (r : NodeReply.Reply) (n : Node) (plain : NodeRefusals.Plain n r) (h : length n.counts ≡ 128) (k : length r.node.counts ≡ 128) where
  node_left : node_leaves r (node_bytes n) ≡ node_bytes r.node
  node_left = go (eqb r.refusal 0) refl
    where
      go : (b : Bool) → eqb r.refusal 0 ≡ b → node_leaves r (node_bytes n) ≡ node_bytes r.node
      go true e = rw e (over (node_bytes n) (node_bytes r.node) (NodeTrips.packed_long r.node k ∙ sym (NodeTrips.packed_long n h)))
      go false e = rw e (ap (λ (x : NodeReply.Reply). node_bytes x.node) (sym (plain (eqb-false r.refusal 0 e))))

-- a call on a packed state leaves the packed state of the machine's step, whatever the plan, the bytes of the event and the number
module _ (plan : List ℕ) (room : ℕ) where
  pub master_call : 3 ≤ room → (m : Master) → MasterPlaces.Placed m → (event : List ℕ)
      → master_leaves (master_reply plan (master_bytes m) event room) (master_bytes m) ≡ master_bytes (master_step (record_of plan) m (MasterEvents.event_of event)).master
  master_call l m h event = go (eqb (plan_refusal (record_of plan)) 0) refl
    where
      go : (b : Bool) → eqb (plan_refusal (record_of plan)) 0 ≡ b
          → master_leaves (master_reply plan (master_bytes m) event room) (master_bytes m) ≡ master_bytes (master_step (record_of plan) m (MasterEvents.event_of event)).master
      go true e =
          let q = MasterRefusals.refused_plain m (record_of plan) (MasterEvents.event_of event) in
          let k = MasterPlaces.places_kept m h (record_of plan) (MasterEvents.event_of event) in
          rw (e, le-ltb room 3 l, MasterTrips.packed_back m h.holds h.counts h.causes) (master_left _ m (rw e at q) h (rw e at k))
      go false e = rw (e, other_number (plan_refusal (record_of plan)) (eqb-false (plan_refusal (record_of plan)) 0 e) (at_most_8 (record_of plan)))

  pub node_call : 4 ≤ room → (me : ℕ) (n : Node) → length n.counts ≡ 128 → (event : List ℕ)
      → node_leaves (node_reply plan me (node_bytes n) event room) (node_bytes n) ≡ node_bytes (node_step (record_of plan) me n (NodeEvents.event_of event)).node
  node_call l me n h event = go (eqb (plan_refusal (record_of plan)) 0) refl
    where
      go : (b : Bool) → eqb (plan_refusal (record_of plan)) 0 ≡ b
          → node_leaves (node_reply plan me (node_bytes n) event room) (node_bytes n) ≡ node_bytes (node_step (record_of plan) me n (NodeEvents.event_of event)).node
      go true e =
          let q = NodeRefusals.refused-same n (record_of plan) me (NodeEvents.event_of event) in
          let k = NodePlaces.places_kept n h (record_of plan) me (NodeEvents.event_of event) in
          rw (e, le-ltb room 4 l, NodeTrips.packed_back n h) (node_left _ n (rw e at q) h (rw e at k))
      go false e = rw (e, ne_eqb (plan_refusal (record_of plan)) 0 (eqb-false (plan_refusal (record_of plan)) 0 e))

  master_chain : 3 ≤ room → (events : List (List ℕ)) (m : Master) → MasterPlaces.Placed m
      → master_calls plan room (master_bytes m) events ≡ master_bytes (master_run (record_of plan) m (map MasterEvents.event_of events))
  unfolding master_calls master_run
  master_chain l [] m h = refl
  master_chain l (event ∷ events) m h =
      ap (λ s. master_calls plan room s events) (master_call l m h event)
      ∙ master_chain l events (master_step (record_of plan) m (MasterEvents.event_of event)).master (MasterPlaces.places_kept m h (record_of plan) (MasterEvents.event_of event))

  node_chain : 4 ≤ room → (me : ℕ) (events : List (List ℕ)) (n : Node) → length n.counts ≡ 128
      → node_calls plan me room (node_bytes n) events ≡ node_bytes (node_run (record_of plan) me n (map NodeEvents.event_of events))
  unfolding node_calls node_run
  node_chain l me [] n h = refl
  node_chain l me (event ∷ events) n h =
      ap (λ s. node_calls plan me room s events) (node_call l me n h event)
      ∙ node_chain l me events (node_step (record_of plan) me n (NodeEvents.event_of event)).node (NodePlaces.places_kept n h (record_of plan) me (NodeEvents.event_of event))

  -- so calls from power-on are the machine's run
  pub master_calls_lem : 3 ≤ room → (events : List (List ℕ))
      → master_calls plan room (master_bytes (MasterChanges.power_on (sleeps (record_of plan)))) events
      ≡ master_bytes (master_run (record_of plan) (MasterChanges.power_on (sleeps (record_of plan))) (map MasterEvents.event_of events))
  master_calls_lem l events = master_chain l events (MasterChanges.power_on (sleeps (record_of plan))) (record { holds = refl; causes = refl; counts = refl })

  pub node_calls_lem : 4 ≤ room → (me : ℕ) (events : List (List ℕ))
      → node_calls plan me room (node_bytes (NodeChanges.power_on (sleeps (record_of plan)))) events
      ≡ node_bytes (node_run (record_of plan) me (NodeChanges.power_on (sleeps (record_of plan))) (map NodeEvents.event_of events))
  node_calls_lem l me events = node_chain l me events (NodeChanges.power_on (sleeps (record_of plan))) refl
