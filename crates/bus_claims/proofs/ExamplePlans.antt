-- The plans of the examples are accepted, and their times are what each is there for.
use Prim.Native.Nat.{◌+◌, ◌*◌, ◌<◌}
use mathlib.Core.Path.{◌≡◌, refl}
use native.Mathlib.Omega.{arith}
use Rattle.base_lists.specs.Bounded.{all_to, any_to}
use Rattle.set_plan.specs.Rules.{times_right, entry_right, differs, node_right, nodes_right, reqid_before, row_after, row_right, rows_right, is_from, publishes, all_publish, plan_refusal}
use Rattle.bus_claims.specs.Claims.{settling_time, waking_time}
use Rattle.bus_history.specs.Examples.{plan, never_plan, quiet_plan, recovery_plan, window_plan}

pub accepted : plan_refusal plan ≡ 0
unfolding plan_refusal times_right entry_right differs node_right nodes_right reqid_before row_after row_right rows_right is_from publishes all_publish all_to any_to
accepted = refl

pub never_accepted : plan_refusal never_plan ≡ 0
unfolding plan_refusal times_right entry_right differs node_right nodes_right reqid_before row_after row_right rows_right is_from publishes all_publish all_to any_to
never_accepted = refl

pub quiet_accepted : plan_refusal quiet_plan ≡ 0
unfolding plan_refusal times_right entry_right differs node_right nodes_right reqid_before row_after row_right rows_right is_from publishes all_publish all_to any_to
quiet_accepted = refl

pub recovery_accepted : plan_refusal recovery_plan ≡ 0
unfolding plan_refusal times_right entry_right differs node_right nodes_right reqid_before row_after row_right rows_right is_from publishes all_publish all_to any_to
recovery_accepted = refl

pub window_accepted : plan_refusal window_plan ≡ 0
unfolding plan_refusal times_right entry_right differs node_right nodes_right reqid_before row_after row_right rows_right is_from publishes all_publish all_to any_to
window_accepted = refl

-- each of the three terms strictly the largest in one of them, and W above all three in another
strictly : (quiet_plan.times.quiet ≡ settling_time quiet_plan.times) × (recovery_plan.times.recovery * 2 ≡ settling_time recovery_plan.times)
    × (plan.times.recovery + plan.times.space ≡ settling_time plan.times) × (settling_time window_plan.times < window_plan.times.window)
strictly = (refl, refl, refl, omega arith)

numbers : (settling_time quiet_plan.times ≡ 6) × (settling_time recovery_plan.times ≡ 6) × (settling_time plan.times ≡ 5) × (settling_time window_plan.times ≡ 5) × (waking_time plan.times ≡ 4)
numbers = (refl, refl, refl, refl, refl)
