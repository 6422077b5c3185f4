-- Where the error of a node shows in a run from power-on: less than its range allows.
use Rattle.std.specs.Prelude.{Option, Some, None}
use Prim.Native.Nat.{ℕ, ◌+◌, ◌*◌}
use mathlib.Core.Path.{◌≡◌, refl}
use mathlib.Core.Bool.{Bool, true, false, ◌&&◌}
use lib.Dec.{ltb, eqb}
use native.Mathlib.Omega.{arith}
use borrow.Author.Tests.{ltb-true}
use Rattle.base_lists.proofs.Choices.{by_test, no_way}
use Rattle.machine_state.specs.declared.State.{State}
use Rattle.set_plan.specs.declared.Times.{Times}
use Rattle.machine_node.specs.declared.Node.{Node}
use Rattle.machine_node.specs.declared.Reply.{Reply}
use Rattle.machine_node.specs.Changes.{with_wake}
use Rattle.machine_node.specs.Ticks.{awake_tick, tick_step}
use Rattle.machine_node.specs.Waking.{pulse_step, call_anew, wake_ask_step, permission_step}
use Rattle.machine_node.proofs.Cases.{split}

-- in Normal, and for a caller at the end of its wait
abbrev pub may_show : Times → State → Bool → ℕ → Type 0
may_show t State.Normal caller standby = Unit {0}
may_show t State.Standby true standby = standby ≡ 2 * t.recovery
may_show t State.Standby false standby = ⊥
may_show t State.Sleep caller standby = ⊥

abbrev pub ErrorShows : Times → Node → Type 0
ErrorShows t n = n.error ≡ true → may_show t n.state n.caller n.standby

pub unshown : (error : Bool) → (error ≡ true → ⊥) → error ≡ false
unshown true h = absurd (h refl)
unshown false h = refl

module _ (t : Times) where
  abbrev Kept : Reply → Type 0
  Kept r = ErrorShows t r.node

  normal_shows : (sleeps clock : Bool) (n : Node) (caller : Bool) (delay : Option ℕ) → Kept (awake_tick sleeps t.quiet clock (split n State.Normal caller delay))
  normal_shows sleeps true n caller delay = λ e. no_way e
  normal_shows sleeps false n caller delay =
      by_test Kept (ltb (n.quiet + 1) t.quiet) (λ l e. tt) (λ l. by_test Kept (sleeps && n.permission) (λ y e. no_way e) (λ y e. tt))

  pub tick_shows : (sleeps clock : Bool) (n : Node) (state : State) (caller : Bool) (delay : Option ℕ)
      → ErrorShows t (split n state caller delay) → Kept (tick_step sleeps t clock (split n state caller delay))
  tick_shows sleeps clock n State.Normal caller None h = normal_shows sleeps clock n caller None
  tick_shows sleeps clock n State.Normal caller (Some ticks) h =
      by_test Kept (ltb (ticks + 1) t.sleep) (λ l. normal_shows sleeps clock n caller (Some (ticks + 1))) (λ l e. no_way e)
  tick_shows sleeps true n State.Standby caller delay h = λ e. no_way e
  tick_shows sleeps false n State.Standby true delay h =
      by_test Kept (ltb (n.standby + 1) (2 * t.recovery))
      (λ l. by_test Kept (eqb (n.standby + 1) t.recovery) (λ q. up l) (λ q. up l))
      (λ l. by_test Kept n.permission (λ y e. no_way e) (λ y e. refl))
    where
      up : ltb (n.standby + 1) (2 * t.recovery) ≡ true → n.error ≡ true → n.standby + 1 ≡ 2 * t.recovery
      up l e = let g = h e in omega (arith, ltb-true (n.standby + 1) (2 * t.recovery) l)
  tick_shows sleeps false n State.Standby false delay h = by_test Kept (ltb (n.standby + 1) t.space) (λ l. h) (λ l e. no_way e)
  tick_shows sleeps true n State.Sleep caller delay h = h
  tick_shows sleeps false n State.Sleep caller delay h = h

  pub pulse_shows : (n : Node) (state : State) → ErrorShows t (split n state n.caller n.delay) → Kept (pulse_step (split n state n.caller n.delay))
  pulse_shows n State.Normal h = h
  pulse_shows n State.Standby h = h
  pulse_shows n State.Sleep h = h

  call_anew_shows : (n : Node) → Kept (call_anew n)
  call_anew_shows n = λ e. no_way e

  pub wake_ask_shows : (sleeps : Bool) (n : Node) (state : State) (caller : Bool) → ErrorShows t (split n state caller n.delay) → Kept (wake_ask_step sleeps (split n state caller n.delay))
  wake_ask_shows sleeps n State.Normal caller h = by_test Kept (sleeps && n.error) (λ x. call_anew_shows (with_wake (split n State.Normal caller n.delay))) (λ x. h)
  wake_ask_shows sleeps n State.Standby true h = h
  wake_ask_shows sleeps n State.Standby false h = λ e. absurd (h e)
  wake_ask_shows sleeps n State.Sleep caller h = λ e. absurd (h e)

  pub permission_shows : (sleeps permitted : Bool) (n : Node) → ErrorShows t n → Kept (permission_step sleeps permitted n)
  permission_shows sleeps permitted n h = by_test Kept permitted (λ y. by_test Kept (sleeps && n.error) (λ x e. no_way e) (λ x. h)) (λ y. h)
