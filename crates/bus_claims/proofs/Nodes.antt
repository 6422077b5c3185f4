-- The nodes of a run: each is as the past tells, after every move.
use Rattle.set_plan.specs.declared.Row.{Row}
use Rattle.std.specs.Prelude.{Option}
use Prim.Native.Nat.{ℕ, suc, ◌≤◌, ◌<◌}
use mathlib.Core.Path.{◌≡◌, refl, sym, subst}
use mathlib.Core.Bool.{Bool, true, false}
use mathlib.Core.List.{List, [], ◌∷◌}
use lib.ListN.{get_or, set, get_or-replicate}
use native.Mathlib.Omega.{arith}
use borrow.Author.Tests.{eq-eqb, ne_eqb}
use Rattle.base_lists.specs.Bounded.{if_else}
use Rattle.base_lists.proofs.Choices.{by_test}
use Rattle.set_plan.specs.declared.Plan.{Plan}
use Rattle.set_plan.specs.Profile.{sleeps}
use Rattle.set_plan.specs.Rules.{plan_refusal}
use Rattle.set_plan.proofs.Accepted.{accepted, nodes_few, TimesFit, times_fit}
use Rattle.machine_node.specs.declared.Node.{Node}
use Rattle.machine_node.specs.Changes as NodeChanges
use Rattle.machine_node.specs.Ticks.{tick_step}
use Rattle.machine_node.specs.Waking.{wake_ask_step, permission_step}
use Rattle.machine_node.specs.Sending.{request_step, send_ask_step}
use Rattle.machine_node.proofs.Commands.{CommandMeans, tick_means}
use Rattle.machine_node.proofs.Settling.{InRun, run-power_on, run_off_ends, run_tick, run_pulse, run_wake_ask, run_permission, run_sleep_message, run_request, run_send_ask}
use Rattle.machine_master.specs.declared.Master.{Master}
use Rattle.bus.specs.declared.Bus.{Bus}
use Rattle.bus_nodes.specs.declared.Callers.{Callers}
use Rattle.bus_nodes.specs.declared.Message.{Message}
use Rattle.bus_nodes.specs.Pulses.{any_called, receive_if, reach_all}
use Rattle.bus.specs.Pulses.{spread}
use Rattle.bus_nodes.specs.Ticks.{ticked_nodes, tick_callers}
use Rattle.bus.specs.declared.Passed.{Passed}
use Rattle.bus.specs.Passed.{ticked, asked, node_permits, slept}
use Rattle.bus_nodes.specs.Nodes.{nodes_used, no_node, node_at}
use Rattle.bus.specs.World.{power_on}
use Rattle.bus_nodes.proofs.WhoCalls.{callers_some}
use Rattle.bus_history.specs.Terms.{node_permitted}
use Rattle.bus_claims.proofs.EachNode as EachNode
use Rattle.bus_claims.proofs.EachNode.{Each, over, one}
use Rattle.bus_claims.proofs.Ticks.{on_for, off_for}

-- node i as the past tells
abbrev pub NodeByPast : Plan → ℕ → List Passed → Node → Type 0
NodeByPast p i past n = InRun p.times (node_permitted i past) (on_for i past) (off_for past) n

abbrev pub NodesByPast : Plan → List Node → List Passed → Type 0
NodesByPast p nodes past = Each p.nodecount (λ i. NodeByPast p i past) nodes

module _ (p : Plan) (ok : plan_refusal p ≡ 0) where
  times : TimesFit p.times
  times = times_fit p.times (accepted p ok).times

  pub few : p.nodecount ≤ 16
  few = nodes_few p (accepted p ok).nodes

  -- pulses that came in the first R ticks without clock
  heard : (callers : Callers) (bus : Bus) (m : Master) (nodes : List Node) (past : List Passed) → (any_called callers ≡ true → off_for past ≤ p.times.recovery) → NodesByPast p nodes past
      → NodesByPast p (spread (nodes_used p.nodecount) callers bus (record { master = m; nodes = nodes })).nodes past
  heard callers bus m nodes past early v =
      EachNode.heard p.nodecount few (λ i. NodeByPast p i past) callers bus m nodes (λ c i l s. run_pulse p.times _ _ _ (node_at nodes i) s (sleeps p) times (early c)) v

  pub tick_by_past : (clock stop pulse : Bool) (bus : Bus) (m : Master) (nodes : List Node) (past : List Passed) → NodesByPast p nodes past
      → NodesByPast p
      (spread (nodes_used p.nodecount) (tick_callers (sleeps p) p.times clock (nodes_used p.nodecount) nodes) bus
      (record { master = m; nodes = ticked_nodes (sleeps p) p.times clock (nodes_used p.nodecount) nodes })).nodes
      (ticked clock stop pulse ∷ past)
  tick_by_past clock stop pulse bus m nodes past v =
      heard (tick_callers (sleeps p) p.times clock (nodes_used p.nodecount) nodes) bus m (ticked_nodes (sleeps p) p.times clock (nodes_used p.nodecount) nodes) (ticked clock stop pulse ∷ past) early
      (over p.nodecount few (λ i. NodeByPast p i past) (λ i. NodeByPast p i (ticked clock stop pulse ∷ past)) nodes v (λ k n. (tick_step (sleeps p) p.times clock n).node)
      (λ i l s. run_tick p.times _ _ _ (node_at nodes i) s (sleeps p) times clock))
    where
      early : any_called (tick_callers (sleeps p) p.times clock (nodes_used p.nodecount) nodes) ≡ true → off_for (ticked clock stop pulse ∷ past) ≤ p.times.recovery
      early e =
          let q = callers_some (λ k. (tick_step (sleeps p) p.times clock (node_at nodes k)).command) (nodes_used p.nodecount) e in
          let n = node_at nodes q.0 in
          let l : q.0 < p.nodecount = omega (arith, q.1) in
          let s = v.each q.0 l in
          let told = tick_means (sleeps p) p.times (off_for past) clock n n.state s.shows s.dark in
          let call = subst (CommandMeans n ((clock ≡ false) × (suc (off_for past) ≤ p.times.recovery)) (λ count. ⊥)) q.2 told in
          rw call.0 call.1

  pub wake_ask_by_past : (k : ℕ) (wakes : Bool) (callers : Callers) (bus : Bus) (m : Master) (nodes : List Node) (past : List Passed) → NodesByPast p nodes past → k < p.nodecount
      → NodesByPast p (spread (nodes_used p.nodecount) callers bus (record { master = m; nodes = set nodes k (wake_ask_step (sleeps p) (node_at nodes k)).node })).nodes (asked wakes ∷ past)
  wake_ask_by_past k wakes callers bus m nodes past v l =
      heard callers bus m (set nodes k (wake_ask_step (sleeps p) (node_at nodes k)).node) (asked wakes ∷ past) (λ c. omega arith)
      (one p.nodecount few (λ i. NodeByPast p i past) (λ i. NodeByPast p i (asked wakes ∷ past)) nodes v k (wake_ask_step (sleeps p) (node_at nodes k)).node l
      (run_wake_ask p.times _ _ _ (node_at nodes k) (v.each k l) (sleeps p) times)
      (λ i h e s. run_off_ends p.times _ _ _ (node_at nodes i) s))

  pub asked_by_past : (wakes : Bool) (nodes : List Node) (past : List Passed) → NodesByPast p nodes past → NodesByPast p nodes (asked wakes ∷ past)
  asked_by_past wakes nodes past v = record { size = v.size; each = λ i l. run_off_ends p.times _ _ _ (node_at nodes i) (v.each i l) }

  pub permission_by_past : (k : ℕ) (word : Bool) (nodes : List Node) (past : List Passed) → NodesByPast p nodes past → k < p.nodecount
      → NodesByPast p (set nodes k (permission_step (sleeps p) word (node_at nodes k)).node) (node_permits k word ∷ past)
  permission_by_past k word nodes past v l =
      one p.nodecount few (λ i. NodeByPast p i past) (λ i. NodeByPast p i (node_permits k word ∷ past)) nodes v k (permission_step (sleeps p) word (node_at nodes k)).node l
      (rw (eq-eqb k k refl) (run_permission p.times _ _ _ (node_at nodes k) (v.each k l) (sleeps p) times word))
      (λ i h e s. rw (ne_eqb k i (λ q. e (sym q))) s)

  pub request_by_past : (row : Option Row) (reached : List Bool) (nodes : List Node) (past : List Passed) → NodesByPast p nodes past
      → NodesByPast p (reach_all (Message.Request row) reached (nodes_used p.nodecount) nodes) past
  request_by_past row reached nodes past v =
      over p.nodecount few (λ i. NodeByPast p i past) (λ i. NodeByPast p i past) nodes v (λ k n. receive_if (get_or reached k false) (Message.Request row) k n)
      (λ i l s. by_test (NodeByPast p i past) (get_or reached i false) (λ h. run_request p.times _ _ _ (node_at nodes i) s (sleeps p) times i row) (λ h. s))

  pub publisher_by_past : (k : ℕ) (row : Option Row) (nodes : List Node) (past : List Passed) → NodesByPast p nodes past → k < p.nodecount
      → NodesByPast p (set nodes k (request_step k row (node_at nodes k)).node) past
  publisher_by_past k row nodes past v l =
      one p.nodecount few (λ i. NodeByPast p i past) (λ i. NodeByPast p i past) nodes v k (request_step k row (node_at nodes k)).node l (run_request p.times _ _ _ (node_at nodes k) (v.each k l) (sleeps p) times k row) (λ i h e s. s)

  pub send_ask_by_past : (k : ℕ) (polled : Bool) (row : Option Row) (nodes : List Node) (past : List Passed) → NodesByPast p nodes past → k < p.nodecount
      → NodesByPast p (set nodes k (send_ask_step k polled row (node_at nodes k)).node) past
  send_ask_by_past k polled row nodes past v l =
      one p.nodecount few (λ i. NodeByPast p i past) (λ i. NodeByPast p i past) nodes v k (send_ask_step k polled row (node_at nodes k)).node l
      (run_send_ask p.times _ _ _ (node_at nodes k) (v.each k l) (sleeps p) times k polled row) (λ i h e s. s)

  pub slept_by_past : (sent : Bool) (reached : List Bool) (nodes : List Node) (past : List Passed) → NodesByPast p nodes past
      → NodesByPast p (reach_all Message.SleepMessage reached (nodes_used p.nodecount) nodes) (slept sent reached ∷ past)
  slept_by_past sent reached nodes past v =
      over p.nodecount few (λ i. NodeByPast p i past) (λ i. NodeByPast p i (slept sent reached ∷ past)) nodes v (λ k n. receive_if (get_or reached k false) Message.SleepMessage k n)
      (λ i l s. go i (get_or reached i false) s)
    where
      go : (i : ℕ) (b : Bool) → NodeByPast p i past (node_at nodes i)
          → InRun p.times (node_permitted i past) (if_else b 0 (on_for i past)) (off_for past) (receive_if b Message.SleepMessage i (node_at nodes i))
      go i true s = run_sleep_message p.times _ _ _ (node_at nodes i) s true times
      go i false s = s

  pub power_on_by_past : NodesByPast p (power_on (sleeps p)).nodes []
  power_on_by_past = record { size = refl; each = λ i l. rw (get_or-replicate 16 i (NodeChanges.power_on (sleeps p)) no_node (within i l)) (run-power_on p.times (sleeps p)) }
    where
      within : (i : ℕ) → i < p.nodecount → i < 16
      within i l = omega (arith, few)
