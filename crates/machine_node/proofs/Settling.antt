-- A node in a run: what each step keeps of its permission, and of the ticks that the clock was on or off.
use Rattle.set_plan.specs.declared.Row.{Row}
use Rattle.std.specs.Prelude.{Option, Some, None}
use Prim.Native.Nat.{ℕ, suc, ◌+◌, ◌*◌, ◌≤◌}
use mathlib.Core.Path.{◌≡◌, refl}
use mathlib.Core.Bool.{Bool, true, false}
use Rattle.base_lists.specs.Bounded.{if_else}
use Rattle.base_lists.proofs.Choices.{no_way}
use Rattle.machine_state.specs.declared.State.{State}
use Rattle.set_plan.specs.declared.Times.{Times}
use Rattle.set_plan.proofs.Accepted.{TimesFit}
use Rattle.machine_node.specs.declared.Node.{Node}
use Rattle.machine_node.specs.declared.Reply.{Reply}
use Rattle.machine_node.specs.Changes.{power_on, with_wake, with_delay}
use Rattle.machine_node.specs.Ticks.{tick_step}
use Rattle.machine_node.specs.Waking.{pulse_step, wake_ask_step, permission_step}
use Rattle.machine_node.specs.Sending.{sleep_message_step, request_step, send_ask_step}
use Rattle.machine_node.proofs.Cases.{tick_any, pulse_any, wake_ask_any, permission_any, sleep_message_any, request_keeps, send_ask_keeps}
use Rattle.machine_node.proofs.InRange.{Fits, asleep_fits, started_fits, tick_fits, pulse_fits, wake_ask_fits, permission_fits, sleep_message_fits, request_fits, send_ask_fits}
use Rattle.machine_node.proofs.ErrorShows.{ErrorShows, tick_shows, pulse_shows, wake_ask_shows, permission_shows}
use Rattle.machine_node.proofs.WithClock.{ClockOn, on_none, on_tick, on_pulse, on_wake_ask, on_permission, on_long}
use Rattle.machine_node.proofs.WithoutClock.{ClockOff, off_none, off_tick, off_pulse, off_permission, off_long}

-- the application's last word is `permitted`; the clock was on for `on` ticks with no sleep message since the first of them,
-- and off for `off` ticks with no ask to wake since the first
pub record InRun (t : Times) (permitted : Bool) (on off : ℕ) (n : Node) : Type 0 where
  pub permission : n.permission ≡ permitted
  pub fits : Fits t n
  pub shows : ErrorShows t n
  pub lit : ClockOn t on n
  pub dark : ClockOff t off n

module _ (t : Times) where
  pub run-power_on : (sleeps : Bool) → InRun t false 0 0 (power_on sleeps)
  run-power_on true = record { permission = refl; fits = asleep_fits t false; shows = λ e. no_way e; lit = on_none t (power_on true); dark = off_none t (power_on true) }
  run-power_on false = record { permission = refl; fits = started_fits t; shows = λ e. no_way e; lit = on_none t (power_on false); dark = off_none t (power_on false) }

  module _ (permitted : Bool) (on off : ℕ) (n : Node) (s : InRun t permitted on off n) where
    -- 0 ticks say nothing: another's ask to wake
    pub run_off_ends : InRun t permitted on 0 n
    run_off_ends = record { permission = s.permission; fits = s.fits; shows = s.shows; lit = s.lit; dark = off_none t n }

    -- (c): after S + 2 ticks
    pub run_on_long : t.sleep + 2 ≤ on → (n.state ≡ State.Normal) × (n.error ≡ false) × (n.delay ≡ None)
    run_on_long l = on_long t on n l s.fits.delay s.lit

    -- (b): after E, 2R and R + P ticks
    pub run_off_long : 1 ≤ t.quiet → t.quiet ≤ off → 2 * t.recovery ≤ off → t.recovery + t.space ≤ off → n.error ≡ false → n.state ≡ State.Sleep
    run_off_long one quiet recovery space = off_long t off n one quiet recovery space s.fits.standby s.dark

    module _ (sleeps : Bool) (a : TimesFit t) where
      tick_lit : (clock : Bool) → ClockOn t (if_else clock (suc on) 0) (tick_step sleeps t clock n).node
      tick_lit true = on_tick t on sleeps n n.state n.delay s.fits.delay s.shows s.lit
      tick_lit false = on_none t (tick_step sleeps t false n).node

      tick_dark : (clock : Bool) → ClockOff t (if_else clock 0 (suc off)) (tick_step sleeps t clock n).node
      tick_dark true = off_none t (tick_step sleeps t true n).node
      tick_dark false = off_tick t off sleeps n n.state n.caller n.delay s.dark

      pub run_tick : (clock : Bool) → InRun t permitted (if_else clock (suc on) 0) (if_else clock 0 (suc off)) (tick_step sleeps t clock n).node
      run_tick clock =
          record {
            permission = tick_any (λ (r : Reply). r.node.permission ≡ permitted) permitted (λ m h. h) (λ m h. h) sleeps t clock n.state n s.permission;
            fits = tick_fits t a sleeps clock n s.fits;
            shows = tick_shows t sleeps clock n n.state n.caller n.delay s.shows;
            lit = tick_lit clock;
            dark = tick_dark clock;
          }

      pub run_pulse : off ≤ t.recovery → InRun t permitted on off (pulse_step n).node
      run_pulse l =
          record {
            permission = pulse_any (λ (r : Reply). r.node.permission ≡ permitted) permitted (λ m h. h) n.state n s.permission;
            fits = pulse_fits t a n.state n s.fits;
            shows = pulse_shows t n n.state s.shows;
            lit = on_pulse t on n n.state s.lit;
            dark = off_pulse t off n n.state l s.dark;
          }

      pub run_wake_ask : InRun t permitted on 0 (wake_ask_step sleeps n).node
      run_wake_ask =
          record {
            permission =
                wake_ask_any (λ (r : Reply). r.node.permission ≡ permitted) permitted (λ m h. h) (λ m h. h) sleeps n.state n.caller (with_wake n) s.permission;
            fits = wake_ask_fits t a sleeps n s.fits;
            shows = wake_ask_shows t sleeps n n.state n.caller s.shows;
            lit = on_wake_ask t on sleeps n n.state n.caller s.lit;
            dark = off_none t (wake_ask_step sleeps n).node;
          }

      pub run_permission : (word : Bool) → InRun t word on off (permission_step sleeps word n).node
      run_permission word =
          record {
            permission = permission_any (λ (r : Reply). r.node.permission ≡ word) word (λ m h. h) sleeps n;
            fits = permission_fits t a sleeps word n s.fits;
            shows = permission_shows t sleeps word n s.shows;
            lit = on_permission t on sleeps word n s.lit;
            dark = off_permission t off sleeps word n s.dark;
          }

      -- all but the range, which alone reads the counts
      abbrev Rest : ℕ → Node → Type 0
      Rest k m = (m.permission ≡ permitted) × ErrorShows t m × ClockOn t k m × ClockOff t off m

      whole : (k : ℕ) (m : Node) → Fits t m → Rest k m → InRun t permitted k off m
      whole k m f r = record { permission = r.0; fits = f; shows = r.1; lit = r.2; dark = r.3 }

      pub run_sleep_message : InRun t permitted 0 off (sleep_message_step sleeps n).node
      run_sleep_message =
          whole 0 (sleep_message_step sleeps n).node (sleep_message_fits t a sleeps n s.fits)
          (sleep_message_any (λ (r : Reply). Rest 0 r.node) n (λ number. (s.permission, s.shows, on_none t n, s.dark)) sleeps
          (s.permission, s.shows, on_none t started, s.dark))
        where
          started : Node
          started = with_delay (Some 0) n

      pub run_request : (me : ℕ) (row : Option Row) → InRun t permitted on off (request_step me row n).node
      run_request me row =
          whole on (request_step me row n).node (request_fits t a me row n s.fits)
          (request_keeps (Rest on) n (λ wake heard counts. (s.permission, s.shows, s.lit, s.dark)) me row)

      pub run_send_ask : (me : ℕ) (polled : Bool) (row : Option Row) → InRun t permitted on off (send_ask_step me polled row n).node
      run_send_ask me polled row =
          whole on (send_ask_step me polled row n).node (send_ask_fits t a me polled row n s.fits)
          (send_ask_keeps (Rest on) n (λ wake heard counts. (s.permission, s.shows, s.lit, s.dark)) me polled row)
