-- A record of an unknown kind, or with a flag or bit of its kind above 1, is no event: 15, in its place of the order.
use Prim.Native.Nat.{◌<◌}
use mathlib.Core.Path.{◌≡◌}
use mathlib.Core.Bool.{true, and-false}
use native.Mathlib.Omega.{arith}
use borrow.Author.Tests.{le-ltb, ne_eqb}
use Rattle.set_plan.specs.declared.Plan.{Plan}
use Rattle.set_plan.specs.Profile.{sleeps}
use Rattle.set_plan.specs.Rules.{plan_refusal}
use Rattle.machine_master.specs.declared.Master.{Master}
use Rattle.machine_master.specs.Changes.{refuse}
use Rattle.machine_master.specs.Range.{in_range}
use Rattle.machine_master.specs.Step.{master_step}
use Rattle.machine_events.specs.declared.EventRecord.{EventRecord}
use Rattle.machine_events.specs.Events.{no_event, event_of}

module _ (r : EventRecord) where
  pub unknown_kind : 6 < r.kind → event_of r ≡ no_event
  unknown_kind l =
      rw (
        ne_eqb r.kind 1 (λ e. omega (arith, l, e)),
        ne_eqb r.kind 4 (λ e. omega (arith, l, e)),
        ne_eqb r.kind 6 (λ e. omega (arith, l, e)),
        ne_eqb r.kind 0 (λ e. omega (arith, l, e)),
        ne_eqb r.kind 2 (λ e. omega (arith, l, e)),
        ne_eqb r.kind 3 (λ e. omega (arith, l, e)),
        ne_eqb r.kind 5 (λ e. omega (arith, l, e)),
      )

  pub wrong_permission : r.kind ≡ 4 → 1 < r.flag → event_of r ≡ no_event
  wrong_permission k l = rw (k, le-ltb r.flag 2 l)

  pub wrong_result : r.kind ≡ 6 → 1 < r.flag → event_of r ≡ no_event
  wrong_result k l = rw (k, le-ltb r.flag 2 l)

  pub wrong_permission_bit : r.kind ≡ 1 → 1 < r.permission → event_of r ≡ no_event
  wrong_permission_bit k l = rw (k, le-ltb r.permission 2 l)

  pub wrong_wake_bit : r.kind ≡ 1 → 1 < r.wake → event_of r ≡ no_event
  wrong_wake_bit k l = rw (k, le-ltb r.wake 2 l, and-false)

-- 11 before it, 16 after it
pub no_event_15 : (p : Plan) (m : Master) → plan_refusal p ≡ 0 → in_range (sleeps p) p.nodecount p.times m ≡ true → master_step p m no_event ≡ refuse m 15
no_event_15 p m z o = rw (z, o)
