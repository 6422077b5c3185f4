-- W-205: "For any accepted plan and master state in Normal give the first true reason of these".
use Rattle.std.specs.Prelude.{ℕ, Bool, true, false, ltb, eqb, get_or, Result, Ok, Err}
use Rattle.base_lists.specs.Bounded.{if_else, first_to}
use Rattle.base_refusals.specs.declared.Refusal.{Refusal}
use Rattle.base_refusals.specs.Numbers.{number}
use Rattle.machine_state.specs.declared.State.{State}
use Rattle.set_plan.specs.declared.Plan.{Plan}
use Rattle.set_plan.specs.declared.Times.{Times}
use Rattle.set_plan.specs.Profile.{sleeps}
use Rattle.set_plan.specs.Rules.{plan_refusal}
use Rattle.machine_master.specs.declared.Master.{Master}
use Rattle.machine_master.specs.declared.Phase.{Phase}
use Rattle.machine_master.specs.Changes.{cause_new, cause_refused, cause_aged, cause_damaged, cause_wake}
use Rattle.machine_master.specs.Range.{in_range}
use Rattle.machine_master.specs.Sleeping.{not_held}
use Rattle.machine_reason.specs.declared.Cause.{Cause}
use Rattle.machine_reason.specs.declared.Reason.{Reason}
use Rattle.machine_reason.specs.declared.Explained.{Explained}

-- "never answered since Normal, refused, aged out, damaged, or dropped by a wake-up", as the master stores it
abbrev pub cause_of : ℕ → Cause
cause_of stored =
    if_else (eqb stored cause_refused) Cause.Refused
    (if_else (eqb stored cause_aged) Cause.Aged
    (if_else (eqb stored cause_damaged) Cause.Damaged
    (if_else (eqb stored cause_wake) Cause.Woken Cause.New)))

-- "the lowest node not held, with why"; else nothing stands in the way
abbrev pub node_reason : ℕ → Master → Reason
node_reason nodecount m =
    if_else (ltb (first_to (not_held m.holds) nodecount) nodecount)
    (Reason.Node (first_to (not_held m.holds) nodecount) (cause_of (get_or m.causes (first_to (not_held m.holds) nodecount) cause_new)))
    Reason.Nothing

-- "sleep under way; result of a called-back message owed; own permission missing; or the lowest node not held"; W-206: "the profile itself
-- as the reason, before all others"
abbrev pub reason_by : Bool → ℕ → Phase → Master → Reason
reason_by false nodecount phase m = Reason.Profile
reason_by true nodecount Phase.Open m = if_else m.permission (node_reason nodecount m) Reason.Own
reason_by true nodecount Phase.Sending m = Reason.UnderWay
reason_by true nodecount Phase.Withdrawn m = Reason.Owed
reason_by true nodecount Phase.Closing m = Reason.UnderWay

abbrev pub explained_by : Reason → Explained
explained_by reason = record { refusal = 0; reason = reason }

abbrev pub refused : ℕ → Explained
refused number = record { refusal = number; reason = Reason.Nothing }

-- what a call gives, so told
abbrev pub explained : Result Reason Refusal → Explained
explained (Ok reason) = explained_by reason
explained (Err refusal) = refused (number refusal)

-- "16 outside Normal"
abbrev pub explain_by : Bool → ℕ → State → Master → Explained
explain_by sleeps nodecount State.Normal m = explained_by (reason_by sleeps nodecount m.phase m)
explain_by sleeps nodecount State.Standby m = refused 16
explain_by sleeps nodecount State.Sleep m = refused 16

-- "the state's range check 11 covers the new field"
abbrev pub explain_with : Bool → ℕ → Times → Master → Explained
explain_with sleeps nodecount t m = if_else (in_range sleeps nodecount t m) (explain_by sleeps nodecount m.state m) (refused 11)

-- "plan 4 to 8 first", and 3 "before 4"
abbrev pub explain : Plan → Master → Explained
explain p m = if_else (eqb (plan_refusal p) 0) (explain_with (sleeps p) p.nodecount p.times m) (refused (plan_refusal p))
