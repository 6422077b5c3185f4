-- A node under a clock that stays on: Normal without error once it was on for S + 2 ticks.
use Rattle.std.specs.Prelude.{Option, Some, None}
use Prim.Native.Nat.{ℕ, zero, suc, ◌+◌, ◌≤◌}
use mathlib.Core.Path.{◌≡◌, refl, sym, ◌∙◌}
use mathlib.Core.Bool.{Bool, true, false, ◌&&◌}
use lib.Dec.{ltb}
use native.Mathlib.Omega.{arith}
use borrow.Author.Tests.{ltb-true}
use Rattle.base_lists.proofs.AllAny.{and_r}
use Rattle.base_lists.proofs.Choices.{by_test, no_way}
use Rattle.machine_state.specs.declared.State.{State}
use Rattle.set_plan.specs.declared.Times.{Times}
use Rattle.machine_node.specs.declared.Node.{Node}
use Rattle.machine_node.specs.declared.Reply.{Reply}
use Rattle.machine_node.specs.Range.{delay_right}
use Rattle.machine_node.specs.Ticks.{tick_step}
use Rattle.machine_node.specs.Waking.{pulse_step, wake_ask_step, permission_step}
use Rattle.machine_node.proofs.Cases.{split}
use Rattle.machine_node.proofs.ErrorShows.{ErrorShows, unshown}

-- for how many ticks the clock can have been on: a delay runs to S, then two ticks lead from Sleep to Normal
abbrev pub on_at : Times → ℕ → State → Option ℕ → Type 0
on_at t k State.Normal None = Unit {0}
on_at t k State.Normal (Some ticks) = k ≤ ticks
on_at t k State.Standby delay = k ≤ t.sleep + 1
on_at t k State.Sleep delay = k ≤ t.sleep

-- after k ticks with the clock on and no sleep message since the first of them
abbrev pub ClockOn : Times → ℕ → Node → Type 0
ClockOn t k n = (1 ≤ k → n.error ≡ false) × on_at t k n.state n.delay

module _ (t : Times) where
  pub on_none : (n : Node) → ClockOn t 0 n
  on_none n = (λ l. absurd (omega arith), go n.state n.delay)
    where
      go : (state : State) (delay : Option ℕ) → on_at t 0 state delay
      go State.Normal None = tt
      go State.Normal (Some ticks) = omega arith
      go State.Standby delay = omega arith
      go State.Sleep delay = omega arith

  module _ (k : ℕ) where
    abbrev Kept : Reply → Type 0
    Kept r = ClockOn t k r.node

    pub on_tick : (sleeps : Bool) (n : Node) (state : State) (delay : Option ℕ) → delay_right t.sleep delay ≡ true → ErrorShows t (split n state n.caller delay)
        → ClockOn t k (split n state n.caller delay) → ClockOn t (suc k) (tick_step sleeps t true (split n state n.caller delay)).node
    on_tick sleeps n State.Normal None d h o = (λ l. refl, tt)
    on_tick sleeps n State.Normal (Some ticks) d h o =
        by_test (λ (r : Reply). ClockOn t (suc k) r.node) (ltb (ticks + 1) t.sleep)
        (λ l. (λ l. refl, omega arith))
        (λ l. (λ l. refl, omega (arith, ltb-true ticks t.sleep d)))
    on_tick sleeps n State.Standby delay d h o = (λ l. refl, tt)
    on_tick sleeps n State.Sleep delay d h o = (λ l. unshown n.error h, omega arith)

    pub on_pulse : (n : Node) (state : State) → ClockOn t k (split n state n.caller n.delay) → Kept (pulse_step (split n state n.caller n.delay))
    on_pulse n State.Normal o = o
    on_pulse n State.Standby o = o
    on_pulse n State.Sleep o = (o.0, omega arith)

    -- with the clock on no error shows
    unlit : (n : Node) → (1 ≤ k → n.error ≡ false) → n.error ≡ true → k ≤ t.sleep
    unlit n f x = go k f
      where
        go : (k : ℕ) → (1 ≤ k → n.error ≡ false) → k ≤ t.sleep
        go zero f = omega arith
        go (suc k) f = no_way (sym (f (omega arith)) ∙ x)

    -- so an ask to wake does not lead out of Normal ..
    pub on_wake_ask : (sleeps : Bool) (n : Node) (state : State) (caller : Bool) → ClockOn t k (split n state caller n.delay) → Kept (wake_ask_step sleeps (split n state caller n.delay))
    on_wake_ask sleeps n State.Normal caller o =
        by_test Kept (sleeps && n.error) (λ x. (λ l. refl, let g = unlit n o.0 (and_r sleeps n.error x) in omega arith)) (λ x. o)
    on_wake_ask sleeps n State.Standby true o = o
    on_wake_ask sleeps n State.Standby false o = o
    on_wake_ask sleeps n State.Sleep caller o = (o.0, omega arith)

    -- .. and a yes puts no node to sleep
    pub on_permission : (sleeps permitted : Bool) (n : Node) → ClockOn t k n → ClockOn t k (permission_step sleeps permitted n).node
    on_permission sleeps permitted n o =
        by_test Kept permitted (λ y. by_test Kept (sleeps && n.error) (λ x. (λ l. refl, unlit n o.0 (and_r sleeps n.error x))) (λ x. o)) (λ y. o)

    pub on_long : (n : Node) → t.sleep + 2 ≤ k → delay_right t.sleep n.delay ≡ true → ClockOn t k n
        → (n.state ≡ State.Normal) × (n.error ≡ false) × (n.delay ≡ None)
    on_long n l d o = let at = go n.state n.delay d o.1 in (at.0, o.0 (omega arith), at.1)
      where
        go : (state : State) (delay : Option ℕ) → delay_right t.sleep delay ≡ true → on_at t k state delay → (state ≡ State.Normal) × (delay ≡ None)
        go State.Normal None d o = (refl, refl)
        go State.Normal (Some ticks) d o = absurd (omega (arith, ltb-true ticks t.sleep d))
        go State.Standby delay d o = absurd (omega arith)
        go State.Sleep delay d o = absurd (omega arith)
