-- W-206: in a run of machines that never sleep every machine stays awake, no node shows an error and no tick stops the clock.
use Rattle.std.specs.Prelude.{Option, Some, None}
use Prim.Native.Nat.{ℕ, ◌<◌}
use mathlib.Core.Path.{◌≡◌, refl, sym, ap, subst, ◌∙◌}
use mathlib.Core.Bool.{Bool, true, false, not, ◌&&◌}
use mathlib.Core.List.{List, [], ◌∷◌}
use lib.Dec.{ltb, eqb}
use lib.ListN.{get_or, set, get_or-replicate}
use native.Mathlib.Omega.{arith}
use borrow.Author.Tests.{ltb-true}
use Rattle.base_lists.proofs.AllAny.{and_l}
use Rattle.base_lists.proofs.Choices.{by_test, no_way}
use Rattle.machine_state.specs.State.{is_normal}
use Rattle.set_plan.specs.declared.Plan.{Plan}
use Rattle.set_plan.specs.declared.Row.{Row}
use Rattle.set_plan.specs.Answering.{is_polled}
use Rattle.set_plan.specs.Find.{find_row}
use Rattle.set_plan.specs.Profile.{sleeps}
use Rattle.set_plan.specs.Rules.{plan_refusal}
use Rattle.machine_node.specs.declared.Node.{Node}
use Rattle.machine_node.specs.declared.Reply as NodeReply
use Rattle.machine_node.specs.Changes as NodeChanges
use Rattle.machine_node.specs.Sending.{request_step, send_ask_step}
use Rattle.machine_node.specs.Ticks as NodeTicks
use Rattle.machine_node.specs.Waking as NodeWaking
use Rattle.machine_node.proofs.Awake as NodeAwake
use Rattle.machine_master.specs.declared.Answer.{Answer}
use Rattle.machine_master.specs.declared.Command.{Command}
use Rattle.machine_master.specs.declared.Master.{Master}
use Rattle.machine_master.specs.Clock.{clock_on, is_off}
use Rattle.machine_master.specs.Sleeping.{sleep_ask_step, send_result_step}
use Rattle.machine_master.specs.Ticks as MasterTicks
use Rattle.machine_master.proofs.Awake as MasterAwake
use Rattle.bus.specs.declared.Act.{Act}
use Rattle.bus.specs.declared.Bus.{Bus}
use Rattle.bus_nodes.specs.declared.Callers.{Callers}
use Rattle.bus.specs.declared.Delivered.{Delivered}
use Rattle.bus.specs.declared.Fate.{Fate}
use Rattle.bus_nodes.specs.declared.Message.{Message}
use Rattle.bus.specs.declared.Move.{Move}
use Rattle.bus.specs.declared.Moved.{Moved}
use Rattle.bus.specs.declared.World.{World}
use Rattle.bus.specs.Messages.{message_refusal, judged_message, carried, arrive, deliver, delivered_in, publish_found, send_ask_by, sending_by, sleep_ask_move, result_after}
use Rattle.bus.specs.Moves.{act_by, world_act}
use Rattle.bus.specs.Applications.{node_wake_ask, node_permission}
use Rattle.bus_nodes.specs.Pulses.{with_caller, any_called, receive_if, reach_all}
use Rattle.bus.specs.Pulses.{spread}
use Rattle.bus_nodes.specs.Ticks.{ticked_nodes, tick_callers}
use Rattle.bus.specs.Ticks.{tick_move}
use Rattle.bus_nodes.specs.Nodes.{nodes_used, no_node, node_at}
use Rattle.bus.specs.World.{power_on, stays}
use Rattle.bus_history.specs.Run.{Run, then, run_from, run, start}
use Rattle.bus_history.specs.Terms.{none, is_stop}
use Rattle.bus_claims.proofs.EachNode.{Each, over, one, of_node_lem, heard}
use Rattle.bus_claims.proofs.Nodes.{few}

-- a node awake, without error
abbrev Clear : ℕ → Node → Type 0
Clear i n = NodeAwake.Awake n × (n.error ≡ false)

pub record AllAwake (p : Plan) (w : World) : Type 0 where
  pub nodes : Each p.nodecount Clear w.nodes
  pub master : MasterAwake.Awake w.master

-- a machine that heard a pulse, or not
spread-awake : (count : ℕ) (callers : Callers) (bus : Bus) (m : Master) (nodes : List Node) → MasterAwake.Awake m
    → MasterAwake.Awake (spread count callers bus (record { master = m; nodes = nodes })).master
spread-awake count callers bus m nodes a =
    by_test P (any_called callers) (λ c. by_test P bus.master (λ b. (MasterAwake.awake_wake_up m a).0) (λ b. a)) (λ c. a)
  where
    P : World → Type 0
    P x = MasterAwake.Awake x.master

-- an answer, or none
record Taken (d : Delivered) : Type 0 where
  awake : MasterAwake.Awake d.master
  runs : is_stop d.passed ≡ false

arrive-awake : (m : Master) → MasterAwake.Awake m → (x : Option (Row × Answer)) → Taken (arrive m x)
arrive-awake m a None = record { awake = a; runs = refl }
arrive-awake m a (Some (row, x)) = record { awake = (MasterAwake.awake-answer m (Some row) x a).0; runs = refl }

deliver-awake : (row : Row) (fate : Fate) (reply : NodeReply.Reply) (m : Master) → MasterAwake.Awake m → Taken (deliver row fate reply m)
deliver-awake row fate reply m a =
    by_test Taken (not (eqb reply.refusal 0)) (λ e. record { awake = a; runs = refl }) (λ e. arrive-awake m a (carried fate row reply.command))

module _ (p : Plan) (ok : plan_refusal p ≡ 0) where
  record Kept (o : Moved) : Type 0 where
    awake : AllAwake p o.world
    runs : is_stop o.passed ≡ false

  module _ (w : World) (v : AllAwake p w) where
    kept : (o : Moved) → Each p.nodecount Clear o.world.nodes → MasterAwake.Awake o.world.master → is_stop o.passed ≡ false → Kept o
    kept o nodes master runs = record { awake = record { nodes = nodes; master = master }; runs = runs }

    stays_kept : (number : ℕ) → Kept (stays w number)
    stays_kept number = kept (stays w number) v.nodes v.master refl

    hears : (callers : Callers) (bus : Bus) (m : Master) (nodes : List Node) → Each p.nodecount Clear nodes
        → Each p.nodecount Clear (spread (nodes_used p.nodecount) callers bus (record { master = m; nodes = nodes })).nodes
    hears callers bus m nodes =
        heard p.nodecount (few p ok) Clear callers bus m nodes (λ c i l q. NodeAwake.awake_pulse (λ e. e ≡ false) (node_at nodes i) q.0 q.1)

    alone : (k : ℕ) (x : Node) → k < p.nodecount → Clear k x → Each p.nodecount Clear (set w.nodes k x)
    alone k x l q = one p.nodecount (few p ok) Clear Clear w.nodes v.nodes k x l q (λ i h e s. s)

    tick_kept : (bus : Bus) → Kept (tick_move false p.times (nodes_used p.nodecount) bus w)
    tick_kept bus =
        kept (tick_move false p.times (nodes_used p.nodecount) bus w)
        (hears callers bus next (ticked_nodes false p.times (clock_on next) (nodes_used p.nodecount) w.nodes) ticks)
        (spread-awake (nodes_used p.nodecount) callers bus next (ticked_nodes false p.times (clock_on next) (nodes_used p.nodecount) w.nodes) stay.0) (ap is_off stay.1)
      where
        next : Master
        next = (MasterTicks.tick_step p.times w.master).master

        stay : MasterAwake.Stays (MasterTicks.tick_step p.times w.master)
        stay = MasterAwake.awake_tick_lem w.master p.times v.master

        callers : Callers
        callers = tick_callers false p.times (clock_on next) (nodes_used p.nodecount) w.nodes

        lit : (clock : Bool) → clock ≡ true → NodeAwake.Clear (λ e. e ≡ false) clock
        lit true e = refl
        lit false e = no_way e

        ticks : Each p.nodecount Clear (ticked_nodes false p.times (clock_on next) (nodes_used p.nodecount) w.nodes)
        ticks =
            over p.nodecount (few p ok) Clear Clear w.nodes v.nodes (λ k x. (NodeTicks.tick_step false p.times (clock_on next) x).node)
            (λ i l q. NodeAwake.awake_tick_lem (λ e. e ≡ false) p.times (clock_on next) (node_at w.nodes i) q.0
            (lit (clock_on next) (ap is_normal (MasterAwake.awake_normal next stay.0))))

    wake_ask_kept : (node : ℕ) (bus : Bus) → Kept (node_wake_ask false (nodes_used p.nodecount) node bus w)
    wake_ask_kept node bus = of_node_lem p.nodecount Kept node w _ (stays_kept 11) (λ l.
        let asked = NodeWaking.wake_ask_step false (node_at w.nodes node) in
        let callers = with_caller Callers.Nobody node asked.command in
        let q = v.nodes.each node l in
        kept _
        (hears callers bus w.master (set w.nodes node asked.node) (alone node asked.node l (NodeAwake.awake_wake_ask (λ e. e ≡ false) (node_at w.nodes node) q.0 q.1)))
        (spread-awake (nodes_used p.nodecount) callers bus w.master (set w.nodes node asked.node) v.master) refl)

    permission_kept : (node : ℕ) (permitted : Bool) → Kept (node_permission false (nodes_used p.nodecount) node permitted w)
    permission_kept node permitted = of_node_lem p.nodecount Kept node w _ (stays_kept 11) (λ l.
        let q = v.nodes.each node l in
        kept _ (alone node _ l (NodeAwake.awake_permission (λ e. e ≡ false) (node_at w.nodes node) q.0 q.1 permitted)) v.master refl)

    -- a request that reaches a set of nodes
    requested : (row : Option Row) (reached : List Bool) (nodes : List Node) → Each p.nodecount Clear nodes
        → Each p.nodecount Clear (reach_all (Message.Request row) reached (nodes_used p.nodecount) nodes)
    requested row reached nodes e =
        over p.nodecount (few p ok) Clear Clear nodes e (λ k x. receive_if (get_or reached k false) (Message.Request row) k x)
        (λ i l q. by_test (Clear i) (get_or reached i false) (λ h. NodeAwake.awake_request (λ e. e ≡ false) (node_at nodes i) q.0 q.1 i row) (λ h. q))

    -- what the publisher sent goes on to the master
    delivers : (nodes : List Node) (row : Row) (fate : Fate) (reply : NodeReply.Reply) → Each p.nodecount Clear nodes → Kept (delivered_in nodes (deliver row fate reply w.master))
    delivers nodes row fate reply e =
        let taken = deliver-awake row fate reply w.master v.master in
        kept _ e taken.awake taken.runs

    judged_kept : (reqid : ℕ) (fate : Fate) (o : Moved) → Kept o → Kept (judged_message (message_refusal reqid fate w.master.state) w o)
    judged_kept reqid fate o h =
        by_test Kept (not (eqb (message_refusal reqid fate w.master.state) 0)) (λ e. stays_kept (message_refusal reqid fate w.master.state)) (λ e. h)

    request_kept : (bus : Bus) (row : Option Row) → Kept (publish_found (nodes_used p.nodecount) bus w row)
    request_kept bus None = stays_kept 12
    request_kept bus (Some row) =
        by_test Kept (ltb row.publisher (nodes_used p.nodecount) && get_or bus.reached row.publisher false)
        (λ l.
        let me = row.publisher in
        let k : me < p.nodecount = omega (arith, ltb-true me (nodes_used p.nodecount) (and_l (ltb me (nodes_used p.nodecount)) (get_or bus.reached me false) l)) in
        let q = v.nodes.each me k in
        delivers _ row bus.fate (request_step me (Some row) (node_at w.nodes me))
        (requested (Some row) (set bus.reached me false) _
        (alone me _ k (NodeAwake.awake_request (λ e. e ≡ false) (node_at w.nodes me) q.0 q.1 me (Some row)))))
        (λ l. kept _ (requested (Some row) bus.reached w.nodes v.nodes) v.master refl)

    send_ask_kept : (node : ℕ) (fate : Fate) (row : Option Row) → node < p.nodecount → Kept (send_ask_by node (is_polled p node) fate w row)
    send_ask_kept node fate None l = stays_kept 12
    send_ask_kept node fate (Some row) l =
        let q = v.nodes.each node l in
        delivers _ row fate (send_ask_step node (is_polled p node) (Some row) (node_at w.nodes node))
        (alone node _ l (NodeAwake.awake_send_ask (λ e. e ≡ false) (node_at w.nodes node) q.0 q.1 node (is_polled p node) (Some row)))

    sleep_ask_kept : Kept (sleep_ask_move false p.nodecount w)
    sleep_ask_kept = kept _ v.nodes (MasterAwake.awake_sleep_ask w.master p.nodecount v.master).0 (unstopped (sleep_ask_step false p.nodecount w.master).command)
      where
        unstopped : (c : Command) → is_stop (sending_by c) ≡ false
        unstopped Command.Nothing = refl
        unstopped Command.ClockOn = refl
        unstopped Command.ClockOff = refl
        unstopped Command.SleepMessage = refl

    -- no sleep message is under way
    result_kept : (sent : Bool) (bus : Bus) → Kept (result_after (nodes_used p.nodecount) sent bus w (send_result_step sent w.master))
    result_kept sent bus =
        by_test Kept (not (eqb (send_result_step sent w.master).refusal 0)) (λ e. stays_kept (send_result_step sent w.master).refusal)
        (λ e. no_way (sym e ∙ ap (λ r. not (eqb r 0)) (MasterAwake.awake_send_result w.master sent v.master).1))

    move_kept : sleeps p ≡ false → (bus : Bus) (act : Act) → Kept (act_by p w bus act)
    move_kept never bus Act.Tick = subst (λ (s : Bool). Kept (tick_move s p.times (nodes_used p.nodecount) bus w)) (sym never) (tick_kept bus)
    move_kept never bus (Act.NodeWakeAsk node) = subst (λ (s : Bool). Kept (node_wake_ask s (nodes_used p.nodecount) node bus w)) (sym never) (wake_ask_kept node bus)
    move_kept never bus Act.MasterWakeAsk = kept _ v.nodes (MasterAwake.awake_wake_up w.master v.master).0 refl
    move_kept never bus (Act.NodePermission node permitted) =
        subst (λ (s : Bool). Kept (node_permission s (nodes_used p.nodecount) node permitted w)) (sym never) (permission_kept node permitted)
    move_kept never bus (Act.MasterPermission permitted) = kept _ v.nodes (MasterAwake.awake_permission w.master permitted v.master).0 refl
    move_kept never bus (Act.Request reqid) = judged_kept reqid bus.fate _ (request_kept bus (find_row p reqid))
    move_kept never bus (Act.SendAsk node reqid) = of_node_lem p.nodecount Kept node w _ (stays_kept 11) (λ l. judged_kept reqid bus.fate _ (send_ask_kept node bus.fate (find_row p reqid) l))
    move_kept never bus Act.SleepAsk = subst (λ (s : Bool). Kept (sleep_ask_move s p.nodecount w)) (sym never) sleep_ask_kept
    move_kept never bus (Act.SendResult sent) = result_kept sent bus

  module _ (never : sleeps p ≡ false) where
    pub record RunsOn (r : Run) : Type 0 where
      pub awake : AllAwake p r.world
      pub runs : none is_stop r.past ≡ true

    from_awake : (moves : List Move) (r : Run) → RunsOn r → RunsOn (run_from p r moves)
    from_awake [] r v = v
    from_awake (m ∷ moves) r v =
        let k = move_kept r.world v.awake never m.bus m.act in
        from_awake moves (then r (world_act p r.world m)) (record { awake = k.awake; runs = rw k.runs v.runs })

    started : AllAwake p (power_on (sleeps p))
    started = subst (λ (s : Bool). AllAwake p (power_on s)) (sym never) (record {
      nodes = record { size = refl; each = λ i l. rw (get_or-replicate 16 i (NodeChanges.power_on false) no_node (omega (arith, few p ok))) (refl, refl) };
      master = refl;
    })

    pub run-awake : (moves : List Move) → RunsOn (run p moves)
    run-awake moves = from_awake moves (start p) (record { awake = started; runs = refl })
