-- Demand 3 holds of every list of moves under every accepted plan.
use Rattle.std.specs.Prelude.{Option, Some, None}
use Prim.Native.Nat.{ℕ, ◌≤◌, ◌<◌}
use mathlib.Core.Path.{◌≡◌, refl, sym, ap, subst, ◌∙◌}
use mathlib.Core.Bool.{Bool, true, false, not, ◌&&◌}
use mathlib.Core.List.{List, [], ◌∷◌}
use mathlib.Core.Logic.{◌⊎◌, inl, inr}
use lib.Dec.{ltb, eqb}
use lib.ListN.{get_or, set}
use native.Mathlib.Omega.{arith}
use borrow.Author.Tests.{ltb-true, lt-ltb, eqb-true, not-false}
use Rattle.base_lists.specs.Bounded.{if_else}
use Rattle.base_lists.proofs.AllAny.{and_l, and_r}
use Rattle.base_lists.proofs.Choices.{by_test, no_way}
use Rattle.machine_state.specs.declared.State.{State}
use Rattle.machine_state.specs.State.{is_normal}
use Rattle.set_plan.specs.declared.Plan.{Plan}
use Rattle.set_plan.specs.declared.Row.{Row}
use Rattle.set_plan.specs.Answering.{is_polled, accepts}
use Rattle.set_plan.specs.Find.{find_row}
use Rattle.set_plan.specs.Profile.{sleeps}
use Rattle.set_plan.specs.Rules.{plan_refusal}
use Rattle.set_plan.proofs.Accepted.{accepted, times_fit}
use Rattle.set_plan.proofs.Lookups.{found_row}
use Rattle.machine_node.specs.declared.Command as NodeCommand
use Rattle.machine_node.specs.declared.Node.{Node}
use Rattle.machine_node.specs.declared.Reply as NodeReply
use Rattle.machine_node.specs.Waking as NodeWaking
use Rattle.machine_node.specs.Sending.{request_step, send_ask_step}
use Rattle.machine_node.proofs.Awake.{node_normal}
use Rattle.machine_node.proofs.Commands.{CommandMeans, own_row, request_means, send_ask_means, own_count}
use Rattle.machine_node.proofs.Settling.{run_on_long, run_off_long}
use Rattle.machine_master.specs.declared.Answer.{Answer}
use Rattle.machine_master.specs.declared.Command as MasterCommand
use Rattle.machine_master.specs.declared.Event.{Event}
use Rattle.machine_master.specs.declared.Master.{Master}
use Rattle.machine_master.specs.declared.Reply.{Reply}
use Rattle.machine_master.specs.Answers.{is_whole, row_step, answer_by, answer_step}
use Rattle.machine_master.specs.Clock.{clock_on, is_off}
use Rattle.machine_master.specs.Sleeping.{sleep_ask_step, send_result_step}
use Rattle.machine_master.specs.Ticks as MasterTicks
use Rattle.machine_master.specs.Waking.{wake_up_step}
use Rattle.machine_master.proofs.InRange.{Fits, act_fits}
use Rattle.bus.specs.declared.Act.{Act}
use Rattle.bus.specs.declared.Bus.{Bus}
use Rattle.bus_nodes.specs.declared.Callers.{Callers}
use Rattle.bus.specs.declared.Fate.{Fate}
use Rattle.bus_nodes.specs.declared.Message.{Message}
use Rattle.bus.specs.declared.Move.{Move}
use Rattle.bus.specs.declared.World.{World}
use Rattle.bus.specs.Messages.{fate_right, message_refusal, judged_message, sent_length, carried, arrive, deliver, delivered_in, publish_found, send_ask_by, sending_by}
use Rattle.bus.specs.Moves.{act_by, world_act}
use Rattle.bus.specs.Applications.{wake_ask_by, permission_by}
use Rattle.bus_nodes.specs.Pulses.{with_caller, any_called, reach_all}
use Rattle.bus.specs.Pulses.{spread}
use Rattle.bus_nodes.specs.Ticks.{ticked_nodes, tick_callers}
use Rattle.bus.specs.declared.Delivered.{Delivered}
use Rattle.bus.specs.declared.Moved.{Moved}
use Rattle.bus.specs.declared.Passed.{Passed}
use Rattle.bus.specs.Passed.{ticked, asked, answered}
use Rattle.bus_nodes.specs.Nodes.{nodes_used, node_at}
use Rattle.bus.specs.World.{stays}
use Rattle.bus_claims.specs.Claims.{settling_time, Settles, Wakes, SleepsAndWakes, StaysAwake, ClaimsBy, Claims}
use Rattle.bus_history.specs.Run.{Run, then, run_from, run, start}
use Rattle.bus_history.specs.Terms.{node_permitted}
use Rattle.bus_claims.proofs.Awake.{run-awake}
use Rattle.bus_claims.proofs.EachNode.{of_node_lem}
use Rattle.bus_claims.proofs.Masters as Masters
use Rattle.bus_claims.proofs.Masters.{MasterByPast}
use Rattle.bus_claims.proofs.Nodes as Nodes
use Rattle.bus_claims.proofs.Nodes.{NodeByPast, NodesByPast}
use Rattle.bus_claims.proofs.Ticks.{off_for, on_counted, off_counted}

-- all machines as the past tells
pub record WorldByPast (p : Plan) (w : World) (past : List Passed) : Type 0 where
  pub nodes : NodesByPast p w.nodes past
  pub master : MasterByPast p w.master past

-- pulses and the master
spread_master : (count : ℕ) (callers : Callers) (bus : Bus) (w : World)
    → (spread count callers bus w).master ≡ if_else (any_called callers && bus.master) (wake_up_step w.master).master w.master
spread_master count callers bus w = go (any_called callers) bus.master
  where
    nodes : List Node
    nodes = reach_all (Message.Pulse callers) bus.hearing count w.nodes

    go : (a b : Bool)
        → (if_else a (if_else b (record { master = (wake_up_step w.master).master; nodes = nodes }) (record { master = w.master; nodes = nodes })) w).master
        ≡ if_else (a && b) (wake_up_step w.master).master w.master
    go true true = refl
    go true false = refl
    go false b = refl

-- a request or an answer that moves
record Moves (reqid : ℕ) (fate : Fate) (state : State) : Type 0 where
  known : reqid < 128
  right : fate_right fate ≡ true
  clock : is_normal state ≡ true

message_moves : (reqid : ℕ) (fate : Fate) (state : State) → message_refusal reqid fate state ≡ 0 → Moves reqid fate state
message_moves reqid fate state =
    by_test P (ltb reqid 128)
    (λ k. by_test P (fate_right fate) (λ r. by_test P (is_normal state) (λ c e. record { known = ltb-true reqid 128 k; right = r; clock = c }) (λ c e. absurd (omega arith))) (λ r e. absurd (omega arith)))
    (λ k e. absurd (omega arith))
  where
    P : ℕ → Type 0
    P refusal = refusal ≡ 0 → Moves reqid fate state

module _ (p : Plan) (ok : plan_refusal p ≡ 0) (past : List Passed) where
  abbrev Kept : Moved → Type 0
  Kept o = WorldByPast p o.world (o.passed ∷ past)

  stays_by_past : (w : World) (number : ℕ) → WorldByPast p w past → Kept (stays w number)
  stays_by_past w number v = record { nodes = record { size = v.nodes.size; each = v.nodes.each }; master = Masters.nothing_by_past p ok past w.master v.master }

  -- in Normal an answer of a plan's row is judged by that row
  module _ (w : World) (v : WorldByPast p w past) (reqid : ℕ) (row : Row) (fate : Fate) (found : find_row p reqid ≡ Some row) (moves : Moves reqid fate w.master.state) where
    same : row.reqid ≡ reqid
    same = (found_row p reqid row found).same

    arrives : (nodes : List Node) (a : Answer) → NodesByPast p nodes past → row.publisher < p.nodecount → a.reqid ≡ row.reqid → a.count < 4
        → (is_whole row a ≡ true → a.permission ≡ true → node_permitted row.publisher past ≡ true)
        → Kept (delivered_in nodes (arrive w.master (Some (row, a))))
    arrives nodes a by-past l q c honest =
        record {
          nodes = record { size = by-past.size; each = by-past.each };
          master = subst (λ (r : Reply). MasterByPast p r.master (answered row a ∷ past)) (sym judged) (Masters.answer_by_past p ok past row a w.master moves.clock l honest fits v.master);
        }
      where
        in_normal_lem : (s : State) → is_normal s ≡ true → answer_by s (Some row) a w.master ≡ row_step row a w.master
        in_normal_lem State.Normal e = refl
        in_normal_lem State.Standby e = no_way e
        in_normal_lem State.Sleep e = no_way e

        judged : answer_step (Some row) a w.master ≡ row_step row a w.master
        judged = in_normal_lem w.master.state moves.clock

        fits : Fits p.nodecount p.times (row_step row a w.master).master
        fits =
            subst (λ (r : Reply). Fits p.nodecount p.times r.master) (ap (λ (r : Option Row). answer_step r a w.master) (ap (find_row p) (q ∙ same) ∙ found) ∙ judged)
            (act_fits p ok w.master (Event.Answer a) (rw (lt-ltb a.reqid 128 (omega (arith, moves.known, q, same)), lt-ltb a.count 4 c)) v.master.fits)

    -- what a node of the plan sends
    module _ (me : ℕ) (n : Node) (l : me < p.nodecount) (s : NodeByPast p me past n) (nodes : List Node) (by-past : NodesByPast p nodes past) where
      abbrev Then : World
      Then = record { master = w.master; nodes = nodes }

      quietly : (number : ℕ) → Kept (stays Then number)
      quietly number = stays_by_past Then number (record { nodes = by-past; master = v.master })

      sends : (f : Fate) → fate_right f ≡ true → (c : NodeCommand.Command) → CommandMeans n ⊥ (own_row me (Some row) n) c → Kept (delivered_in nodes (arrive w.master (carried f row c)))
      sends f r NodeCommand.Command.Nothing t = quietly 0
      sends f r NodeCommand.Command.Pulse t = quietly 0
      sends (Fate.Whole length) r (NodeCommand.Command.Send permission wake count) t =
          arrives nodes (record { reqid = row.reqid; result = 0; length = sent_length row length; count = count; permission = permission; wake = wake }) by-past (omega (arith, l, t.2.0)) refl
          (own_count p.times me count row n s.fits (omega (arith, moves.known, same)) t.2)
          (λ whole y. ap (λ (j : ℕ). node_permitted j past) t.2.0 ∙ sym s.permission ∙ sym t.0 ∙ y)
      sends (Fate.Damaged d) r (NodeCommand.Command.Send permission wake count) t =
          arrives nodes (record { reqid = row.reqid; result = d.result; length = d.length; count = d.count; permission = d.permission; wake = d.wake }) by-past (omega (arith, l, t.2.0)) refl
          (ltb-true d.count 4 (and_r (not (eqb d.result 0)) (ltb d.count 4) r))
          (λ whole y. unwhole (eqb d.result 0) (and_l (eqb d.result 0) (accepts row d.length) whole) (and_l (not (eqb d.result 0)) (ltb d.count 4) r))
        where
          unwhole : {A : Type 0} (b : Bool) → b ≡ true → not b ≡ true → A
          unwhole true e q = no_way q
          unwhole false e q = no_way e
      sends Fate.Lost r (NodeCommand.Command.Send permission wake count) t = quietly 0

      delivers : (reply : NodeReply.Reply) → CommandMeans n ⊥ (own_row me (Some row) n) reply.command → Kept (delivered_in nodes (deliver row fate reply w.master))
      delivers reply t = by_test (λ (d : Delivered). Kept (delivered_in nodes d)) (not (eqb reply.refusal 0)) (λ e. quietly reply.refusal) (λ e. sends fate moves.right reply.command t)

  module _ (w : World) (v : WorldByPast p w past) where
    -- 15 and 16, or a message that moves
    judged_by_past : (reqid : ℕ) (fate : Fate) (o : Moved) → (Moves reqid fate w.master.state → Kept o)
        → Kept (judged_message (message_refusal reqid fate w.master.state) w o)
    judged_by_past reqid fate o h =
        by_test Kept (not (eqb (message_refusal reqid fate w.master.state) 0)) (λ e. stays_by_past w (message_refusal reqid fate w.master.state) v)
        (λ e. h (message_moves reqid fate w.master.state (eqb-true (message_refusal reqid fate w.master.state) 0 (not-false _ e))))

    request_by_past : (reqid : ℕ) (bus : Bus) → Moves reqid bus.fate w.master.state → Kept (publish_found (nodes_used p.nodecount) bus w (find_row p reqid))
    request_by_past reqid bus moves = go (find_row p reqid) refl
      where
        go : (row : Option Row) → find_row p reqid ≡ row → Kept (publish_found (nodes_used p.nodecount) bus w row)
        go None e = stays_by_past w 12 v
        go (Some row) e =
            by_test Kept (ltb row.publisher (nodes_used p.nodecount) && get_or bus.reached row.publisher false)
            (λ l.
            let k : row.publisher < p.nodecount = omega (arith, ltb-true row.publisher (nodes_used p.nodecount) (and_l (ltb row.publisher (nodes_used p.nodecount)) (get_or bus.reached row.publisher false) l)) in
            delivers w v reqid row bus.fate e moves row.publisher (node_at w.nodes row.publisher) k (v.nodes.each row.publisher k) _
            (Nodes.request_by_past p ok (Some row) (set bus.reached row.publisher false) _ past (Nodes.publisher_by_past p ok row.publisher (Some row) w.nodes past v.nodes k))
            (request_step row.publisher (Some row) (node_at w.nodes row.publisher)) (request_means row.publisher (Some row) (node_at w.nodes row.publisher)))
            (λ l. stays_by_past _ 0 (record { nodes = Nodes.request_by_past p ok (Some row) bus.reached w.nodes past v.nodes; master = v.master }))

    send_ask_by_past : (node reqid : ℕ) (bus : Bus) → node < p.nodecount → Moves reqid bus.fate w.master.state
        → Kept (send_ask_by node (is_polled p node) bus.fate w (find_row p reqid))
    send_ask_by_past node reqid bus l moves = go (find_row p reqid) refl
      where
        go : (row : Option Row) → find_row p reqid ≡ row → Kept (send_ask_by node (is_polled p node) bus.fate w row)
        go None e = stays_by_past w 12 v
        go (Some row) e =
            delivers w v reqid row bus.fate e moves node (node_at w.nodes node) l (v.nodes.each node l)
            (set w.nodes node (send_ask_step node (is_polled p node) (Some row) (node_at w.nodes node)).node)
            (Nodes.send_ask_by_past p ok node (is_polled p node) (Some row) w.nodes past v.nodes l)
            (send_ask_step node (is_polled p node) (Some row) (node_at w.nodes node)) (send_ask_means node (is_polled p node) (Some row) (node_at w.nodes node))

    sending_unseen : (c : MasterCommand.Command) → NodesByPast p w.nodes (sending_by c ∷ past)
    sending_unseen MasterCommand.Command.Nothing = record { size = v.nodes.size; each = v.nodes.each }
    sending_unseen MasterCommand.Command.ClockOn = record { size = v.nodes.size; each = v.nodes.each }
    sending_unseen MasterCommand.Command.ClockOff = record { size = v.nodes.size; each = v.nodes.each }
    sending_unseen MasterCommand.Command.SleepMessage = record { size = v.nodes.size; each = v.nodes.each }

    -- every move keeps it
    move_by_past : (bus : Bus) (act : Act) → Kept (act_by p w bus act)
    move_by_past bus Act.Tick =
        let reply = MasterTicks.tick_step p.times w.master in
        let callers = tick_callers (sleeps p) p.times (clock_on reply.master) (nodes_used p.nodecount) w.nodes in
        record {
          nodes = Nodes.tick_by_past p ok (clock_on reply.master) (is_off reply.command) (any_called callers && bus.master) bus reply.master w.nodes past v.nodes;
          master =
              subst (λ (m : Master). MasterByPast p m (ticked (clock_on reply.master) (is_off reply.command) (any_called callers && bus.master) ∷ past))
              (sym (spread_master (nodes_used p.nodecount) callers bus (record { master = reply.master; nodes = ticked_nodes (sleeps p) p.times (clock_on reply.master) (nodes_used p.nodecount) w.nodes })))
              (Masters.tick_by_past p ok past (any_called callers && bus.master) w.master v.master);
        }
    move_by_past bus (Act.NodeWakeAsk node) =
        let reply = NodeWaking.wake_ask_step (sleeps p) (node_at w.nodes node) in
        let callers = with_caller Callers.Nobody node reply.command in
        of_node_lem p.nodecount Kept node w (wake_ask_by (nodes_used p.nodecount) node bus w reply) (stays_by_past w 11 v)
        (λ l. record {
          nodes = Nodes.wake_ask_by_past p ok node (any_called callers && bus.master) callers bus w.master w.nodes past v.nodes l;
          master =
              subst (λ (m : Master). MasterByPast p m (asked (any_called callers && bus.master) ∷ past))
              (sym (spread_master (nodes_used p.nodecount) callers bus (record { master = w.master; nodes = set w.nodes node reply.node })))
              (Masters.asked_by_past p ok past (any_called callers && bus.master) w.master v.master);
        })
    move_by_past bus Act.MasterWakeAsk =
        record { nodes = Nodes.asked_by_past p ok true w.nodes past v.nodes; master = Masters.asked_by_past p ok past true w.master v.master }
    move_by_past bus (Act.NodePermission node permitted) =
        of_node_lem p.nodecount Kept node w (permission_by node permitted w (NodeWaking.permission_step (sleeps p) permitted (node_at w.nodes node))) (stays_by_past w 11 v)
        (λ l. record {
          nodes = Nodes.permission_by_past p ok node permitted w.nodes past v.nodes l;
          master = Masters.node_permits_by_past p ok past node permitted w.master v.master;
        })
    move_by_past bus (Act.MasterPermission permitted) =
        record { nodes = record { size = v.nodes.size; each = v.nodes.each }; master = Masters.permission_by_past p ok past permitted w.master v.master }
    move_by_past bus (Act.Request reqid) = judged_by_past reqid bus.fate (publish_found (nodes_used p.nodecount) bus w (find_row p reqid)) (request_by_past reqid bus)
    move_by_past bus (Act.SendAsk node reqid) =
        of_node_lem p.nodecount Kept node w
        (judged_message (message_refusal reqid bus.fate w.master.state) w (send_ask_by node (is_polled p node) bus.fate w (find_row p reqid))) (stays_by_past w 11 v)
        (λ l. judged_by_past reqid bus.fate (send_ask_by node (is_polled p node) bus.fate w (find_row p reqid)) (send_ask_by_past node reqid bus l))
    move_by_past bus Act.SleepAsk =
        record { nodes = sending_unseen (sleep_ask_step (sleeps p) p.nodecount w.master).command; master = Masters.ask_by_past p ok past w.master v.master }
    move_by_past bus (Act.SendResult sent) =
        by_test Kept (not (eqb (send_result_step sent w.master).refusal 0)) (λ e. stays_by_past w (send_result_step sent w.master).refusal v)
        (λ e. record {
          nodes = Nodes.slept_by_past p ok sent bus.reached w.nodes past v.nodes;
          master = Masters.result_by_past p ok past sent bus.reached w.master (eqb-true (send_result_step sent w.master).refusal 0 (not-false _ e)) v.master;
        })

module _ (p : Plan) (ok : plan_refusal p ≡ 0) where
  pub from_by_past : (moves : List Move) (r : Run) → WorldByPast p r.world r.past → WorldByPast p (run_from p r moves).world (run_from p r moves).past
  from_by_past [] r v = v
  from_by_past (m ∷ moves) r v = from_by_past moves (then r (world_act p r.world m)) (move_by_past p ok r.past r.world v m.bus m.act)

  pub run_by_past : (moves : List Move) → WorldByPast p (run p moves).world (run p moves).past
  run_by_past moves = from_by_past moves (start p) (record { nodes = Nodes.power_on_by_past p ok; master = Masters.power_on_by_past p ok })

  sleeps_and_wakes : (moves : List Move) → SleepsAndWakes p moves
  sleeps_and_wakes moves =
      let v = run_by_past moves in
      record {
        stops = Masters.stops_agreed p (run p moves).world.master (run p moves).past v.master;
        settles = settled (run p moves).world.nodes (run p moves).past v.nodes;
        wakes = woken (run p moves).world.nodes (run p moves).past v.nodes;
      }
    where
      settled : (nodes : List Node) (past : List Passed) → NodesByPast p nodes past → Settles p past nodes
      settled nodes past v off quiet i l = go (node_at nodes i).error refl
        where
          long : settling_time p.times ≤ off_for past
          long = off_counted (settling_time p.times) past off quiet

          go : (b : Bool) → (node_at nodes i).error ≡ b → ((node_at nodes i).state ≡ State.Sleep) ⊎ ((node_at nodes i).error ≡ true)
          go true e = inr e
          go false e =
              inl (run_off_long p.times _ _ _ (node_at nodes i) (v.each i l) (times_fit p.times (accepted p ok).times).quiet.least
              (omega (arith, long)) (omega (arith, long)) (omega (arith, long)) e)

      woken : (nodes : List Node) (past : List Passed) → NodesByPast p nodes past → Wakes p past nodes
      woken nodes past v on i l quiet =
          let long = on_counted i _ past on quiet in
          let g = run_on_long p.times _ _ _ (node_at nodes i) (v.each i l) (omega (arith, long)) in
          (g.0, g.1)

  stays-awake : sleeps p ≡ false → (moves : List Move) → StaysAwake p moves
  stays-awake never moves =
      let v = run-awake p ok never moves in
      record { runs = v.runs; awake = λ i l. let q = v.awake.nodes.each i l in (node_normal (node_at (run p moves).world.nodes i) q.0, q.1) }

  pub claims_hold : (moves : List Move) → Claims p moves
  claims_hold moves = go (sleeps p) refl
    where
      go : (s : Bool) → sleeps p ≡ s → ClaimsBy s p moves
      go true e = sleeps_and_wakes moves
      go false e = stays-awake e moves
