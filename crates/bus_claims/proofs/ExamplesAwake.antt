-- What demand 3 and the reasons say of a panel that never sleeps (W-206), on computed lists, beside what the same lists show of one that does.
use mathlib.Core.Path.{◌≡◌, refl, ap}
use mathlib.Core.Bool.{true, false}
use mathlib.Core.List.{List, [], ◌++◌}
use native.Mathlib.Omega.{arith}
use Rattle.base_lists.specs.Bounded.{any_to, first_to, tab}
use Rattle.base_lists.proofs.Choices.{no_way}
use Rattle.machine_state.specs.declared.State.{State}
use Rattle.machine_state.specs.State.{is_normal}
use Rattle.set_plan.specs.declared.Plan.{Plan}
use Rattle.set_plan.specs.Find.{has_reqid, row_among, find_row}
use Rattle.machine_node.specs.declared.Node.{Node}
use Rattle.machine_master.specs.Changes.{all_woken}
use Rattle.machine_master.specs.Sleeping.{not_held}
use Rattle.machine_master.specs.Ticks.{all_older, all_aged_out}
use Rattle.machine_reason.specs.declared.Reason.{Reason}
use Rattle.machine_reason.specs.Reasons.{explained_by, refused}
use Rattle.bus.specs.declared.Act.{Act}
use Rattle.bus.specs.declared.Move.{Move}
use Rattle.bus.specs.Moves.{world_act}
use Rattle.bus_nodes.specs.Nodes.{node_at}
use Rattle.bus_history.specs.Examples.{plan, never_plan, lossless, does, ticks, permitting, answering, stopping}
use Rattle.bus_history.specs.Run.{run}
use Rattle.bus_history.specs.Terms.{none, is_stop}
use Rattle.bus_claims.specs.Claims.{StaysAwake}
use Rattle.bus_claims.specs.Reasons.{shown}
use Rattle.bus_claims.proofs.ExamplePlans.{never_accepted}
use Rattle.bus_claims.proofs.ClaimsHold.{claims_hold}

abbrev node : Plan → List Move → Node
node p moves = node_at (run p moves).world.nodes 0

-- before any move
first : (node never_plan []).state ≡ State.Normal
first = ((claims_hold never_plan never_accepted []).awake 0 (omega arith)).0

-- a list that stops the clock of a panel that sleeps stops none here: its sleep ask is refused 25, so nothing is sent
stopped : (none is_stop (run plan stopping).past ≡ false) × (none is_stop (run never_plan stopping).past ≡ true)
unfolding find_row row_among has_reqid first_to any_to not_held all_older all_aged_out all_woken tab
stopped = (refl, refl)

asked : ((world_act plan (run plan answering).world (does Act.SleepAsk)).refusal ≡ 0) × ((world_act never_plan (run never_plan answering).world (does Act.SleepAsk)).refusal ≡ 25)
    × ((world_act never_plan (run never_plan []).world (does Act.SleepAsk)).refusal ≡ 25) × ((world_act plan (run plan []).world (does Act.SleepAsk)).refusal ≡ 16)
unfolding find_row row_among has_reqid first_to any_to not_held all_older all_aged_out all_woken tab
asked = (refl, refl, refl, refl)

-- after each time of the plan, with everyone's permission
later : ((node never_plan (answering ++ ticks 9 lossless)).state ≡ State.Normal) × ((node never_plan (answering ++ ticks 9 lossless)).error ≡ false)
unfolding find_row row_among has_reqid first_to any_to not_held all_older all_aged_out all_woken tab
later = (refl, refl)

-- of a panel that sleeps the claim is false, before any move
sleeping : StaysAwake plan [] → ⊥
sleeping claim = no_way (ap is_normal (claim.awake 0 (omega arith)).0)

-- the reason is the profile, whatever else stands in the way: the own permission, a node's, or nothing
reasons :
    (shown never_plan (run never_plan []).past ≡ explained_by Reason.Profile) × (shown plan (run plan []).past ≡ refused 16)
    × (shown never_plan (run never_plan permitting).past ≡ explained_by Reason.Profile)
    × (shown never_plan (run never_plan answering).past ≡ explained_by Reason.Profile) × (shown plan (run plan answering).past ≡ explained_by Reason.Nothing)
unfolding find_row row_among has_reqid first_to any_to not_held all_older all_aged_out all_woken tab
reasons = (refl, refl, refl, refl, refl)
