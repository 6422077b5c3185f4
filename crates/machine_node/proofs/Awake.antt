-- W-206: a machine that never sleeps stays in Normal with no sleep delay, and with the clock on shows no error.
use Rattle.set_plan.specs.declared.Row.{Row}
use Rattle.std.specs.Prelude.{Option, Some, None}
use Prim.Native.Nat.{ℕ, ◌+◌}
use mathlib.Core.Path.{◌≡◌, refl, sym, subst}
use mathlib.Core.Bool.{Bool, true, false}
use lib.Dec.{ltb, eqb}
use Rattle.base_lists.proofs.Choices.{by_test, no_way}
use Rattle.machine_state.specs.declared.State.{State}
use Rattle.set_plan.specs.declared.Times.{Times}
use Rattle.set_plan.specs.declared.Plan.{Plan}
use Rattle.set_plan.specs.Answering.{is_polled}
use Rattle.set_plan.specs.Find.{find_row}
use Rattle.set_plan.specs.Profile.{sleeps}
use Rattle.set_plan.specs.Rules.{plan_refusal}
use Rattle.machine_node.specs.declared.Node.{Node}
use Rattle.machine_node.specs.declared.Event.{Event}
use Rattle.machine_node.specs.declared.Reply.{Reply}
use Rattle.machine_node.specs.Range.{is_awake, in_range}
use Rattle.machine_node.specs.Ticks.{tick_step}
use Rattle.machine_node.specs.Waking.{pulse_step, wake_ask_step, permission_step}
use Rattle.machine_node.specs.Sending.{sleep_message_step, request_step, send_ask_step}
use Rattle.machine_node.specs.Step.{event_right, row_asked, act_with, act, node_step}
use Rattle.machine_node.proofs.Cases.{split, request_keeps, send_ask_keeps}

abbrev pub Awake : Node → Type 0
Awake n = is_awake n.state n.delay ≡ true

pub node_normal : (n : Node) → Awake n → n.state ≡ State.Normal
node_normal n a = go n.state n.delay a
  where
    go : (s : State) (d : Option ℕ) → is_awake s d ≡ true → s ≡ State.Normal
    go State.Normal d a = refl
    go State.Standby d a = no_way a
    go State.Sleep d a = no_way a

-- with what else holds of a reply's node where it stays awake
module _ (P : Bool → Type 0) where
  abbrev Stays : Reply → Type 0
  Stays r = Awake r.node × P r.node.error

  -- where P holds of each error, or of none and the clock is on
  abbrev pub Clear : Bool → Type 0
  Clear true = P false
  Clear false = (error : Bool) → P error

  tick_at : (t : Times) (clock : Bool) (n : Node) (state : State) (delay : Option ℕ) → is_awake state delay ≡ true → Clear clock
      → Stays (tick_step false t clock (split n state n.caller delay))
  tick_at t true n State.Normal None a p = (refl, p)
  tick_at t false n State.Normal None a p = by_test Stays (ltb (n.quiet + 1) t.quiet) (λ l. (refl, p _)) (λ l. (refl, p _))
  tick_at t clock n State.Normal (Some ticks) a p = no_way a
  tick_at t clock n State.Standby delay a p = no_way a
  tick_at t clock n State.Sleep delay a p = no_way a

  pub awake_tick_lem : (t : Times) (clock : Bool) (n : Node) → Awake n → Clear clock → Stays (tick_step false t clock n)
  awake_tick_lem t clock n a p = tick_at t clock n n.state n.delay a p

  module _ (n : Node) (a : Awake n) (p : P n.error) where
    pulse_at : (state : State) (delay : Option ℕ) → is_awake state delay ≡ true → Stays (pulse_step (split n state n.caller delay))
    pulse_at State.Normal delay a = (a, p)
    pulse_at State.Standby delay a = no_way a
    pulse_at State.Sleep delay a = no_way a

    pub awake_pulse : Stays (pulse_step n)
    awake_pulse = pulse_at n.state n.delay a

    wake_ask_at : (state : State) (delay : Option ℕ) → is_awake state delay ≡ true → Stays (wake_ask_step false (split n state n.caller delay))
    wake_ask_at State.Normal delay a = (a, p)
    wake_ask_at State.Standby delay a = no_way a
    wake_ask_at State.Sleep delay a = no_way a

    pub awake_wake_ask : Stays (wake_ask_step false n)
    awake_wake_ask = wake_ask_at n.state n.delay a

    pub awake_permission : (permitted : Bool) → Stays (permission_step false permitted n)
    awake_permission permitted = by_test Stays permitted (λ y. (a, p)) (λ y. (a, p))

    sleep_message_at : (state : State) (delay : Option ℕ) → is_awake state delay ≡ true → Stays (sleep_message_step false (split n state n.caller delay))
    sleep_message_at State.Normal delay a = (a, p)
    sleep_message_at State.Standby delay a = no_way a
    sleep_message_at State.Sleep delay a = no_way a

    pub awake_sleep_message : Stays (sleep_message_step false n)
    awake_sleep_message = sleep_message_at n.state n.delay a

    abbrev Here : Node → Type 0
    Here m = Awake m × P m.error

    pub awake_request : (me : ℕ) (row : Option Row) → Stays (request_step me row n)
    awake_request me row = request_keeps Here n (λ wake heard counts. (a, p)) me row

    pub awake_send_ask : (me : ℕ) (polled : Bool) (row : Option Row) → Stays (send_ask_step me polled row n)
    awake_send_ask me polled row = send_ask_keeps Here n (λ wake heard counts. (a, p)) me polled row

-- so every step leaves it so
abbrev Left : Reply → Type 0
Left r = Awake r.node

act-awake : (p : Plan) (me : ℕ) (n : Node) (e : Event) → Awake n → Left (act_with false p.times me (is_polled p me) (row_asked p e) n e)
act-awake p me n (Event.Tick clock) a = (awake_tick_lem Any p.times clock n a (any clock)).0
  where
    Any : Bool → Type 0
    Any error = Unit {0}

    any : (clock : Bool) → Clear Any clock
    any true = tt
    any false = λ error. tt
act-awake p me n Event.Pulse a = (awake_pulse (λ error. Unit {0}) n a tt).0
act-awake p me n Event.WakeAsk a = (awake_wake_ask (λ error. Unit {0}) n a tt).0
act-awake p me n (Event.Permission permitted) a = (awake_permission (λ error. Unit {0}) n a tt permitted).0
act-awake p me n Event.SleepMessage a = (awake_sleep_message (λ error. Unit {0}) n a tt).0
act-awake p me n (Event.Request reqid) a = (awake_request (λ error. Unit {0}) n a tt me (find_row p reqid)).0
act-awake p me n (Event.SendAsk reqid) a = (awake_send_ask (λ error. Unit {0}) n a tt me (is_polled p me) (find_row p reqid)).0

pub step_awake : (p : Plan) (me : ℕ) (n : Node) (e : Event) → sleeps p ≡ false → Awake n → Left (node_step p me n e)
step_awake p me n e q a =
    by_test Left (eqb (plan_refusal p) 0)
    (λ h. by_test Left (ltb me p.nodecount)
    (λ h. by_test Left (in_range (sleeps p) p.times n) (λ h. by_test Left (event_right e) (λ h. acted) (λ h. a)) (λ h. a))
    (λ h. a))
    (λ h. a)
  where
    acted : Left (act p me n e)
    acted = subst (λ (s : Bool). Left (act_with s p.times me (is_polled p me) (row_asked p e) n e)) (sym q) (act-awake p me n e a)
