-- (b) on computed lists: due at the settling time and not a tick before, by each of its terms; and not where somebody asked to wake.
use Prim.Native.Nat.{◌-◌}
use mathlib.Core.Path.{◌≡◌, refl}
use mathlib.Core.Bool.{true, false}
use lib.ListN.{get_or, take}
use native.Mathlib.Omega.{arith}
use Rattle.base_lists.specs.Bounded.{any_to, first_to, tab}
use Rattle.set_plan.specs.Find.{has_reqid, row_among, find_row}
use Rattle.machine_master.specs.Sleeping.{not_held}
use Rattle.machine_master.specs.Ticks.{all_older}
use Rattle.bus.specs.Passed.{nothing}
use Rattle.bus_nodes.specs.Nodes.{node_at}
use Rattle.bus_history.specs.Examples.{plan, quiet_plan, recovery_plan, window_plan, calling, calling_both, unreached}
use Rattle.bus_history.specs.Run.{run}
use Rattle.bus_history.specs.Terms.{every, none, is_stop, ticks_in, leaves_off, is_ask}
use Rattle.bus_claims.specs.Claims.{ClockFor, SettlesAfter, settling_time}
use Rattle.bus_claims.proofs.ExamplePlans.{accepted, quiet_accepted, recovery_accepted, window_accepted}
use Rattle.bus_claims.proofs.ExampleClocks.{Dark, dark, undue, too_early}

-- R + P: node 1, woken by a second pulse at the R-th tick, sleeps P ticks later
space : Dark (node_at (run plan (calling 5)).world.nodes 1)
unfolding find_row row_among has_reqid first_to any_to not_held all_older tab
space = dark plan accepted refl (calling 5) 1 (omega arith) 5 refl refl refl

-- a tick before it is in Standby
space_early : SettlesAfter (settling_time plan.times - 1) plan (run plan (calling 4)).past (run plan (calling 4)).world.nodes → ⊥
unfolding find_row row_among has_reqid first_to any_to not_held all_older tab
space_early = too_early plan accepted refl (calling 4) 1 (omega arith) 4 refl refl refl refl refl

space_undue : (off : ClockFor leaves_off (settling_time plan.times) (run plan (calling 4)).past) → none is_ask off.recent ≡ true → ⊥
unfolding find_row row_among has_reqid first_to any_to not_held all_older tab
space_undue = undue plan accepted refl (calling 4) 1 (omega arith) refl refl

-- 2R: node 0, which called, shows its error at the 2R-th tick
recovery : Dark (node_at (run recovery_plan (calling 6)).world.nodes 0)
unfolding find_row row_among has_reqid first_to any_to not_held all_older tab
recovery = dark recovery_plan recovery_accepted refl (calling 6) 0 (omega arith) 6 refl refl refl

-- a tick before it does not
recovery_early : SettlesAfter (settling_time recovery_plan.times - 1) recovery_plan (run recovery_plan (calling 5)).past (run recovery_plan (calling 5)).world.nodes → ⊥
unfolding find_row row_among has_reqid first_to any_to not_held all_older tab
recovery_early = too_early recovery_plan recovery_accepted refl (calling 5) 0 (omega arith) 5 refl refl refl refl refl

recovery_undue : (off : ClockFor leaves_off (settling_time recovery_plan.times) (run recovery_plan (calling 5)).past) → none is_ask off.recent ≡ true → ⊥
unfolding find_row row_among has_reqid first_to any_to not_held all_older tab
recovery_undue = undue recovery_plan recovery_accepted refl (calling 5) 0 (omega arith) refl refl

-- E: node 1, which the sleep message did not reach, sleeps at the E-th tick
quiet : Dark (node_at (run quiet_plan (unreached 6)).world.nodes 1)
unfolding find_row row_among has_reqid first_to any_to not_held all_older tab
quiet = dark quiet_plan quiet_accepted refl (unreached 6) 1 (omega arith) 6 refl refl refl

-- a tick before it is Normal without error
quiet_early : SettlesAfter (settling_time quiet_plan.times - 1) quiet_plan (run quiet_plan (unreached 5)).past (run quiet_plan (unreached 5)).world.nodes → ⊥
unfolding find_row row_among has_reqid first_to any_to not_held all_older tab
quiet_early = too_early quiet_plan quiet_accepted refl (unreached 5) 1 (omega arith) 5 refl refl refl refl refl

quiet_undue : (off : ClockFor leaves_off (settling_time quiet_plan.times) (run quiet_plan (unreached 5)).past) → none is_ask off.recent ≡ true → ⊥
unfolding find_row row_among has_reqid first_to any_to not_held all_older tab
quiet_undue = undue quiet_plan quiet_accepted refl (unreached 5) 1 (omega arith) refl refl

-- the first of these ticks is the one that stops the clock
quiet_first : is_stop (get_or (run quiet_plan (unreached 6)).past 5 nothing) ≡ true
unfolding find_row row_among has_reqid first_to any_to not_held all_older tab
quiet_first = refl

-- W is no term of it: W is 9, and node 1 sleeps at the fifth tick
window : Dark (node_at (run window_plan (calling 5)).world.nodes 1)
unfolding find_row row_among has_reqid first_to any_to not_held all_older tab
window = dark window_plan window_accepted refl (calling 5) 1 (omega arith) 5 refl refl refl

-- and not at the fourth
window_early : SettlesAfter (settling_time window_plan.times - 1) window_plan (run window_plan (calling 4)).past (run window_plan (calling 4)).world.nodes → ⊥
unfolding find_row row_among has_reqid first_to any_to not_held all_older tab
window_early = too_early window_plan window_accepted refl (calling 4) 1 (omega arith) 4 refl refl refl refl refl

window_undue : (off : ClockFor leaves_off (settling_time window_plan.times) (run window_plan (calling 4)).past) → none is_ask off.recent ≡ true → ⊥
unfolding find_row row_among has_reqid first_to any_to not_held all_older tab
window_undue = undue window_plan window_accepted refl (calling 4) 1 (omega arith) refl refl

-- off for the settling time, but node 1 asked to wake within it, and neither sleeps nor shows its error
asked-within :
    (ticks_in (take 6 (run plan (calling_both 2 3)).past) ≡ settling_time plan.times)
    × (every leaves_off (take 6 (run plan (calling_both 2 3)).past) ≡ true)
    × (none is_ask (take 6 (run plan (calling_both 2 3)).past) ≡ false)
unfolding find_row row_among has_reqid first_to any_to not_held all_older tab
asked-within = (refl, refl, refl)

asked_undue : (off : ClockFor leaves_off (settling_time plan.times) (run plan (calling_both 2 3)).past) → none is_ask off.recent ≡ true → ⊥
unfolding find_row row_among has_reqid first_to any_to not_held all_older tab
asked_undue = undue plan accepted refl (calling_both 2 3) 1 (omega arith) refl refl
