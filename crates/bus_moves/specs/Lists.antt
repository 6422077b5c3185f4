-- A move as bytes, and a list of them from power-on.
use Rattle.std.specs.Prelude.{ℕ, true, List, [], ◌∷◌, eqb}
use Rattle.base_lists.specs.Bounded.{if_else}
use Rattle.set_plan.specs.declared.Plan.{Plan}
use Rattle.set_plan.specs.Profile.{sleeps}
use Rattle.set_plan.specs.Rules.{plan_refusal}
use Rattle.bus.specs.declared.Moved.{Moved}
use Rattle.bus.specs.declared.World.{World}
use Rattle.bus.specs.Moves.{world_act}
use Rattle.bus.specs.Range.{world_in_range}
use Rattle.bus.specs.World.{power_on, stays}
use Rattle.bus_history.specs.Run.{Run, then, start, run}
use Rattle.bus_moves.specs.declared.Ran.{Ran}
use Rattle.bus_moves.specs.Decoding.{move_of, is_move}
use Rattle.bus_moves.specs.Records.{list_right, moves_of}

-- "plan 4 to 8 first, then 11, 15", and 3 "before 4"
abbrev pub step_of : Plan → World → List ℕ → Moved
step_of p w s =
    if_else (eqb (plan_refusal p) 0)
    (if_else (world_in_range (sleeps p) p.nodecount p.times w)
    (if_else (is_move s) (world_act p w (move_of s))
    (stays w 15))
    (stays w 11))
    (stays w (plan_refusal p))

-- a step for each record, from the world that the one before left
abbrev pub steps_from : Plan → Run → List (List ℕ) → Run
steps_from p r [] = r
steps_from p r (s ∷ more) = steps_from p (then r (step_of p r.world s)) more

-- from power-on
abbrev pub steps : Plan → List (List ℕ) → Run
steps p l = steps_from p (start p) l

-- what a run answers
abbrev pub ran_to : ℕ → World → Ran
ran_to refusal world = record { refusal = refusal; world = world }

-- under an accepted plan: 15 for bytes that are no list of moves, with the machines at power-on
abbrev pub ran_over : Plan → List ℕ → Ran
ran_over p s = if_else (list_right s) (ran_to 0 (run p (moves_of s)).world) (ran_to 15 (power_on (sleeps p)))

-- "plan 4 to 8 first", and 3 "before 4"
abbrev pub run_of : Plan → List ℕ → Ran
run_of p s = if_else (eqb (plan_refusal p) 0) (ran_over p s) (ran_to (plan_refusal p) (power_on true))
