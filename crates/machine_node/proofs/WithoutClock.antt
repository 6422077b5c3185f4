-- A node under a clock that stays off, with no ask to wake: asleep or in error once it was off for E, 2R and R + P ticks.
use Rattle.std.specs.Prelude.{Option, Some, None}
use Prim.Native.Nat.{ℕ, suc, ◌+◌, ◌*◌, ◌≤◌, ◌<◌}
use mathlib.Core.Path.{◌≡◌, refl, sym}
use mathlib.Core.Bool.{Bool, true, false, ◌&&◌}
use lib.Dec.{ltb, eqb}
use native.Mathlib.Omega.{arith}
use borrow.Author.Tests.{ltb-true}
use Rattle.base_lists.proofs.Choices.{by_test, no_way}
use Rattle.machine_state.specs.declared.State.{State}
use Rattle.set_plan.specs.declared.Times.{Times}
use Rattle.machine_node.specs.declared.Node.{Node}
use Rattle.machine_node.specs.declared.Reply.{Reply}
use Rattle.machine_node.specs.Range.{standby_right}
use Rattle.machine_node.specs.Ticks.{quiet_tick, tick_step}
use Rattle.machine_node.specs.Waking.{pulse_step, permission_step}
use Rattle.machine_node.proofs.Cases.{split}

-- for how many ticks the clock can have been off: the node's count went with them, and what woke a listener came in the first R
abbrev pub off_at : Times → ℕ → State → Bool → Bool → ℕ → ℕ → Type 0
off_at t k State.Normal caller error quiet standby = error ≡ false → (k ≤ quiet) × (1 ≤ k → quiet < t.quiet)
off_at t k State.Standby true error quiet standby = error ≡ false → (k ≤ standby) × (1 ≤ k → standby < 2 * t.recovery)
off_at t k State.Standby false error quiet standby = k ≤ standby + t.recovery
off_at t k State.Sleep caller error quiet standby = Unit {0}

-- after k ticks with the clock off and no ask to wake since the first of them
abbrev pub ClockOff : Times → ℕ → Node → Type 0
ClockOff t k n = off_at t k n.state n.caller n.error n.quiet n.standby

module _ (t : Times) where
  pub off_none : (n : Node) → ClockOff t 0 n
  off_none n = go n.state n.caller
    where
      go : (state : State) (caller : Bool) → off_at t 0 state caller n.error n.quiet n.standby
      go State.Normal caller = λ e. (omega arith, λ l. absurd (omega arith))
      go State.Standby true = λ e. (omega arith, λ l. absurd (omega arith))
      go State.Standby false = omega arith
      go State.Sleep caller = tt

  module _ (k : ℕ) where
    abbrev Later : Reply → Type 0
    Later r = ClockOff t (suc k) r.node

    quiet_off : (sleeps : Bool) (n : Node) (caller : Bool) (delay : Option ℕ) → ClockOff t k (split n State.Normal caller delay) → Later (quiet_tick sleeps t.quiet (split n State.Normal caller delay))
    quiet_off sleeps n caller delay o =
        by_test Later (ltb (n.quiet + 1) t.quiet)
        (λ l e. let g = (o e).0 in (omega arith, λ m. ltb-true (n.quiet + 1) t.quiet l))
        (λ l. by_test Later (sleeps && n.permission) (λ y. tt) (λ y e. no_way (sym e)))

    pub off_tick : (sleeps : Bool) (n : Node) (state : State) (caller : Bool) (delay : Option ℕ)
        → ClockOff t k (split n state caller delay) → Later (tick_step sleeps t false (split n state caller delay))
    off_tick sleeps n State.Normal caller None o = quiet_off sleeps n caller None o
    off_tick sleeps n State.Normal caller (Some ticks) o =
        by_test Later (ltb (ticks + 1) t.sleep) (λ l. quiet_off sleeps n caller (Some (ticks + 1)) o) (λ l. tt)
    off_tick sleeps n State.Standby true delay o =
        by_test Later (ltb (n.standby + 1) (2 * t.recovery))
        (λ l. by_test Later (eqb (n.standby + 1) t.recovery) (λ q. up l) (λ q. up l))
        (λ l. by_test Later n.permission (λ y. tt) (λ y e. no_way (sym e)))
      where
        up : ltb (n.standby + 1) (2 * t.recovery) ≡ true → n.error ≡ false → (suc k ≤ n.standby + 1) × (1 ≤ suc k → n.standby + 1 < 2 * t.recovery)
        up l e = let g = (o e).0 in (omega arith, λ m. ltb-true (n.standby + 1) (2 * t.recovery) l)
    off_tick sleeps n State.Standby false delay o = by_test Later (ltb (n.standby + 1) t.space) (λ l. omega arith) (λ l. tt)
    off_tick sleeps n State.Sleep caller delay o = tt

    -- a pulse that is heard came in the first R ticks
    pub off_pulse : (n : Node) (state : State) → k ≤ t.recovery → ClockOff t k (split n state n.caller n.delay)
        → ClockOff t k (pulse_step (split n state n.caller n.delay)).node
    off_pulse n State.Normal l o = o
    off_pulse n State.Standby l o = o
    off_pulse n State.Sleep l o = omega arith

    pub off_permission : (sleeps permitted : Bool) (n : Node) → ClockOff t k n → ClockOff t k (permission_step sleeps permitted n).node
    off_permission sleeps permitted n o = by_test Kept permitted (λ y. by_test Kept (sleeps && n.error) (λ x. tt) (λ x. o)) (λ y. o)
      where
        Kept : Reply → Type 0
        Kept r = ClockOff t k r.node

    pub off_long : (n : Node) → 1 ≤ t.quiet → t.quiet ≤ k → 2 * t.recovery ≤ k → t.recovery + t.space ≤ k
        → standby_right t n.state n.caller n.standby ≡ true → ClockOff t k n → n.error ≡ false → n.state ≡ State.Sleep
    off_long n one quiet recovery space r o e = go n.state n.caller r o
      where
        go : (state : State) (caller : Bool) → standby_right t state caller n.standby ≡ true → off_at t k state caller n.error n.quiet n.standby → state ≡ State.Sleep
        go State.Normal caller r o = let g = (o e).1 (omega arith) in let h = (o e).0 in absurd (omega arith)
        go State.Standby true r o = let g = (o e).1 (omega arith) in let h = (o e).0 in absurd (omega arith)
        go State.Standby false r o = absurd (omega (arith, ltb-true n.standby t.space r))
        go State.Sleep caller r o = refl
