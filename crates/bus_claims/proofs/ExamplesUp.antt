-- (c) on computed lists: due at S + 2 ticks and not at S + 1; and not where a sleep message reached the node within them.
use Prim.Native.Nat.{◌-◌}
use mathlib.Core.Path.{◌≡◌, refl}
use mathlib.Core.Bool.{true, false}
use lib.ListN.{take}
use native.Mathlib.Omega.{arith}
use Rattle.base_lists.specs.Bounded.{any_to, first_to, tab}
use Rattle.set_plan.specs.Find.{has_reqid, row_among, find_row}
use Rattle.machine_master.specs.Clock.{clock_on}
use Rattle.machine_master.specs.Sleeping.{not_held}
use Rattle.machine_master.specs.Ticks.{all_older}
use Rattle.bus_nodes.specs.Nodes.{node_at}
use Rattle.bus_history.specs.Examples.{plan, waking, failing, failing_later}
use Rattle.bus_history.specs.Run.{run}
use Rattle.bus_history.specs.Terms.{every, none, ticks_in, leaves_on, reaches}
use Rattle.bus_claims.specs.Claims.{ClockFor, WakesAfter, waking_time}
use Rattle.bus_claims.proofs.ExamplePlans.{accepted}
use Rattle.bus_claims.proofs.ExampleClocks.{Up, up, unowed, too_soon}

-- a sleep message that failed reached node 1 just before the first of the ticks: it sleeps at the S-th and is back at S + 2
failed : Up (node_at (run plan (failing 4)).world.nodes 1)
unfolding find_row row_among has_reqid first_to any_to not_held all_older tab
failed = up plan accepted refl (failing 4) 1 (omega arith) 4 refl refl refl

-- a tick before it is in Standby
failed_early : WakesAfter (waking_time plan.times - 1) plan (run plan (failing 3)).past (run plan (failing 3)).world.nodes → ⊥
unfolding find_row row_among has_reqid first_to any_to not_held all_older tab
failed_early = too_soon plan accepted refl (failing 3) 1 (omega arith) 3 refl refl refl refl

failed_unowed : (on : ClockFor leaves_on (waking_time plan.times) (run plan (failing 3)).past) → none (reaches 1) on.recent ≡ true → ⊥
unfolding find_row row_among has_reqid first_to any_to not_held all_older tab
failed_unowed = unowed plan accepted refl (failing 3) 1 (omega arith) refl

-- on for so long, but the message reached node 1 after the first tick, and it is in Standby
reached-within :
    (ticks_in (take 5 (run plan (failing_later 3)).past) ≡ waking_time plan.times)
    × (every leaves_on (take 5 (run plan (failing_later 3)).past) ≡ true)
    × (none (reaches 1) (take 5 (run plan (failing_later 3)).past) ≡ false)
unfolding find_row row_among has_reqid first_to any_to not_held all_older tab
reached-within = (refl, refl, refl)

reached_unowed : (on : ClockFor leaves_on (waking_time plan.times) (run plan (failing_later 3)).past) → none (reaches 1) on.recent ≡ true → ⊥
unfolding find_row row_among has_reqid first_to any_to not_held all_older tab
reached_unowed = unowed plan accepted refl (failing_later 3) 1 (omega arith) refl

-- the tick that switches the clock on is the first of those that count
switched_first : (clock_on (run plan (waking 0)).world.master ≡ false) × (clock_on (run plan (waking 1)).world.master ≡ true)
unfolding find_row row_among has_reqid first_to any_to not_held all_older tab
switched_first = (refl, refl)

switched : Up (node_at (run plan (waking 4)).world.nodes 1)
unfolding find_row row_among has_reqid first_to any_to not_held all_older tab
switched = up plan accepted refl (waking 4) 1 (omega arith) 4 refl refl refl
