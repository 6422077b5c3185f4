-- In a run nothing is lost by judging plan and machines once: each machine's part in a move is its own step, and no world is out of range.
use Prim.Native.Nat.{ℕ, ◌<◌}
use mathlib.Core.Path.{◌≡◌, ap, ◌∙◌}
use mathlib.Core.Bool.{Bool, true, false}
use mathlib.Core.List.{List}
use native.Mathlib.Omega.{arith}
use borrow.Author.Tests.{lt-ltb, eq-eqb}
use Rattle.base_lists.specs.Bounded.{if_else}
use Rattle.base_lists.proofs.AllAny.{all_intro}
use Rattle.set_plan.specs.declared.Plan.{Plan}
use Rattle.set_plan.specs.Profile.{sleeps}
use Rattle.set_plan.specs.Rules.{plan_refusal}
use Rattle.machine_node.specs.declared.Event as NodeEvent
use Rattle.machine_node.specs.declared.Node.{Node}
use Rattle.machine_node.specs.Step as NodeStep
use Rattle.machine_node.proofs.Awake as NodeAwake
use Rattle.machine_node.proofs.InRange as NodeRange
use Rattle.machine_master.specs.declared.Event as MasterEvent
use Rattle.machine_master.specs.declared.Master.{Master}
use Rattle.machine_master.specs.Step as MasterStep
use Rattle.machine_master.proofs.Awake as MasterAwake
use Rattle.machine_master.proofs.InRange as MasterRange
use Rattle.bus.specs.declared.Move.{Move}
use Rattle.bus.specs.declared.World.{World}
use Rattle.bus.specs.Moves.{world_act, world_step}
use Rattle.bus_nodes.specs.Nodes.{node_in_range, nodes_used, node_at}
use Rattle.bus.specs.Range.{world_in_range}
use Rattle.bus.specs.declared.Passed.{Passed}
use Rattle.bus.specs.World.{stays}
use Rattle.bus_history.specs.Run.{run}
use Rattle.bus_claims.proofs.Awake.{AllAwake, run-awake}
use Rattle.bus_claims.proofs.ClaimsHold.{WorldByPast, run_by_past}

module _ (p : Plan) (ok : plan_refusal p ≡ 0) where
  pub node_judged : (me : ℕ) (n : Node) (e : NodeEvent.Event) → me < p.nodecount → (sleeps p ≡ false → NodeAwake.Awake n) → NodeRange.Fits p.times n → NodeStep.event_right e ≡ true
      → NodeStep.node_step p me n e ≡ NodeStep.act p me n e
  node_judged me n e l a f r = rw (eq-eqb (plan_refusal p) 0 ok, lt-ltb me p.nodecount l, NodeRange.in_range_lem (sleeps p) p.times n a f, r)

  pub master_judged : (m : Master) (e : MasterEvent.Event) → (sleeps p ≡ false → MasterAwake.Awake m) → MasterRange.Fits p.nodecount p.times m → MasterStep.event_right e ≡ true
      → MasterStep.master_step p m e ≡ MasterStep.act p m e
  master_judged m e a f r = rw (eq-eqb (plan_refusal p) 0 ok, MasterRange.in_range_lem (sleeps p) p.nodecount p.times m a f, r)

  in_range_lem : (w : World) (past : List Passed) → (sleeps p ≡ false → AllAwake p w) → WorldByPast p w past → world_in_range (sleeps p) p.nodecount p.times w ≡ true
  unfolding world_in_range node_in_range
  in_range_lem w past a v =
      rw (MasterRange.in_range_lem (sleeps p) p.nodecount p.times w.master (λ e. (a e).master) v.master.fits, all_intro (node_in_range (sleeps p) p.times w.nodes) (nodes_used p.nodecount) each)
    where
      each : (i : ℕ) → i < nodes_used p.nodecount → node_in_range (sleeps p) p.times w.nodes i ≡ true
      each i l =
          let used : i < p.nodecount = omega arith in
          NodeRange.in_range_lem (sleeps p) p.times (node_at w.nodes i) (λ e. ((a e).nodes.each i used).0) (v.nodes.each i used).fits

  pub run_judged : (moves : List Move) (m : Move) → world_step p (run p moves).world m ≡ world_act p (run p moves).world m
  run_judged moves m = judged (run p moves).world (in_range_lem (run p moves).world (run p moves).past (λ e. (run-awake p ok e moves).awake) (run_by_past p ok moves))
    where
      judged : (w : World) → world_in_range (sleeps p) p.nodecount p.times w ≡ true → world_step p w m ≡ world_act p w m
      judged w e =
          ap (λ (b : Bool). if_else b (if_else (world_in_range (sleeps p) p.nodecount p.times w) (world_act p w m) (stays w 11)) (stays w (plan_refusal p))) (eq-eqb (plan_refusal p) 0 ok)
          ∙ ap (λ (b : Bool). if_else b (world_act p w m) (stays w 11)) e
