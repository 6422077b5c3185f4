-- A step of a node keeps the places of its sequence counts.
use Rattle.std.specs.Prelude.{Option, Some, None}
use Prim.Native.Nat.{ℕ, ◌+◌, ◌*◌}
use mathlib.Core.Path.{◌≡◌, refl, ◌∙◌}
use mathlib.Core.Bool.{Bool, true, false, ◌&&◌}
use lib.ListN.{length, length-set}
use lib.Dec.{ltb, eqb}
use Rattle.base_lists.proofs.Choices.{by_test}
use Rattle.machine_state.specs.declared.State.{State}
use Rattle.set_plan.specs.declared.Times.{Times}
use Rattle.set_plan.specs.declared.Plan.{Plan}
use Rattle.set_plan.specs.Limits.{reqids}
use Rattle.set_plan.specs.Profile.{sleeps}
use Rattle.set_plan.specs.Rules.{plan_refusal}
use Rattle.set_plan.specs.Answering.{is_polled}
use Rattle.set_plan.specs.Find.{find_row}
use Rattle.machine_node.specs.declared.Node.{Node}
use Rattle.machine_node.specs.declared.Event.{Event}
use Rattle.machine_node.specs.declared.Reply.{Reply}
use Rattle.machine_node.specs.Changes.{with_heard, with_delay}
use Rattle.machine_node.specs.Range.{in_range}
use Rattle.machine_node.specs.Ticks.{awake_tick, normal_by, tick_by}
use Rattle.machine_node.specs.Waking.{pulse_by, wake_ask_by, permission_step}
use Rattle.machine_node.specs.Step.{event_right, act, node_step}
use Rattle.machine_node.proofs.Cases.{any_row, sleep_message_any, request_any, send_ask_any}

abbrev Placed : Reply → Type 0
Placed r = length r.node.counts ≡ reqids

awake_placed : (sleeps : Bool) (limit : ℕ) (clock : Bool) (n : Node) → length n.counts ≡ reqids → Placed (awake_tick sleeps limit clock n)
awake_placed sleeps limit true n h = h
awake_placed sleeps limit false n h = by_test Placed (ltb (n.quiet + 1) limit) (λ l. h) (λ l. by_test Placed (sleeps && n.permission) (λ y. refl) (λ y. h))

normal_placed : (sleeps : Bool) (t : Times) (clock : Bool) (delay : Option ℕ) (n : Node) → length n.counts ≡ reqids → Placed (normal_by sleeps t clock delay n)
normal_placed sleeps t clock None n h = awake_placed sleeps t.quiet clock n h
normal_placed sleeps t clock (Some ticks) n h =
    by_test Placed (ltb (ticks + 1) t.sleep) (λ l. awake_placed sleeps t.quiet clock (with_delay (Some (ticks + 1)) n) h) (λ l. refl)

tick_placed : (sleeps : Bool) (t : Times) (clock : Bool) (state : State) (n : Node) → length n.counts ≡ reqids → Placed (tick_by sleeps t clock state n)
tick_placed sleeps t clock State.Normal n h = normal_placed sleeps t clock n.delay n h
tick_placed sleeps t clock State.Standby n h =
    by_test Placed clock (λ k. refl)
    (λ k. by_test Placed n.caller
    (λ c. by_test Placed (ltb (n.standby + 1) (2 * t.recovery))
    (λ l. by_test Placed (eqb (n.standby + 1) t.recovery) (λ e. h) (λ e. h))
    (λ l. by_test Placed n.permission (λ y. refl) (λ y. h)))
    (λ c. by_test Placed (ltb (n.standby + 1) t.space) (λ l. h) (λ l. refl)))
tick_placed sleeps t clock State.Sleep n h = by_test Placed clock (λ k. h) (λ k. h)

pulse_placed : (state : State) (n : Node) → length n.counts ≡ reqids → Placed (pulse_by state n)
pulse_placed State.Normal n h = h
pulse_placed State.Standby n h = h
pulse_placed State.Sleep n h = h

wake_ask_placed : (sleeps : Bool) (state : State) (caller : Bool) (n : Node) → length n.counts ≡ reqids → Placed (wake_ask_by sleeps state caller n)
wake_ask_placed sleeps State.Normal caller n h = by_test Placed (sleeps && n.error) (λ e. h) (λ e. h)
wake_ask_placed sleeps State.Standby true n h = h
wake_ask_placed sleeps State.Standby false n h = h
wake_ask_placed sleeps State.Sleep caller n h = h

permission_placed : (sleeps : Bool) (permitted : Bool) (n : Node) → length n.counts ≡ reqids → Placed (permission_step sleeps permitted n)
permission_placed sleeps permitted n h = by_test Placed permitted (λ y. by_test Placed (sleeps && n.error) (λ e. refl) (λ e. h)) (λ y. h)

module _ (n : Node) (h : length n.counts ≡ reqids) where
  act_placed : (p : Plan) (me : ℕ) (e : Event) → Placed (act p me n e)
  act_placed p me (Event.Tick clock) = tick_placed (sleeps p) p.times clock n.state n h
  act_placed p me Event.Pulse = pulse_placed n.state n h
  act_placed p me Event.WakeAsk = wake_ask_placed (sleeps p) n.state n.caller _ h
  act_placed p me (Event.Permission permitted) = permission_placed (sleeps p) permitted n h
  act_placed p me Event.SleepMessage = sleep_message_any Placed n (λ number. h) (sleeps p) h
  act_placed p me (Event.Request reqid) =
      request_any Placed n (λ number. h) me (find_row p reqid) h (any_row Placed me (find_row p reqid) (with_heard n) (λ reqid. length-set n.counts reqid _ ∙ h))
  act_placed p me (Event.SendAsk reqid) =
      send_ask_any Placed n (λ number. h) me (is_polled p me) (find_row p reqid) (any_row Placed me (find_row p reqid) n (λ reqid. length-set n.counts reqid _ ∙ h))

  pub places_kept : (p : Plan) (me : ℕ) (e : Event) → length (node_step p me n e).node.counts ≡ reqids
  places_kept p me e =
      by_test Placed (eqb (plan_refusal p) 0)
      (λ a. by_test Placed (ltb me p.nodecount)
      (λ b. by_test Placed (in_range (sleeps p) p.times n) (λ c. by_test Placed (event_right e) (λ d. act_placed p me e) (λ d. h)) (λ c. h))
      (λ b. h))
      (λ a. h)
