-- The profile of a plan: panels whose power the ignition cuts never sleep.
use Rattle.std.specs.Prelude.{ℕ, Bool, leb, eqb}
use Rattle.set_plan.specs.declared.Plan.{Plan}

-- 3: "1 for this profile and 0 otherwise"
abbrev pub profile_right : ℕ → Bool
profile_right profile = leb profile 1

-- whether the machines of a plan sleep and wake: under the profile "the ignition cuts the power, so there is no wake-up or sleep"
abbrev pub sleeps : Plan → Bool
sleeps p = eqb p.profile 0
