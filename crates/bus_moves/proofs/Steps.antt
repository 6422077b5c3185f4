-- A list of moves that runs is a step for each of its records.
use Prim.Native.Nat.{ℕ}
use mathlib.Core.Path.{◌≡◌, refl, ap, sym, ◌∙◌}
use mathlib.Core.Bool.{Bool, true}
use mathlib.Core.List.{List, [], ◌∷◌, ◌++◌, map}
use lib.Dec.{eqb}
use borrow.Author.Tests.{eq-eqb}
use Rattle.base_lists.specs.Bounded.{if_else}
use Rattle.base_lists.proofs.AllAny.{and_l, and_r}
use Rattle.set_plan.specs.declared.Plan.{Plan}
use Rattle.set_plan.specs.Profile.{sleeps}
use Rattle.set_plan.specs.Rules.{plan_refusal}
use Rattle.bus.specs.declared.Move.{Move}
use Rattle.bus.specs.declared.Moved.{Moved}
use Rattle.bus.specs.Moves.{world_act}
use Rattle.bus.specs.Range.{world_in_range}
use Rattle.bus.specs.World.{stays}
use Rattle.bus_history.specs.Run.{Run, then, start, run_from, run}
use Rattle.bus_claims.proofs.JudgedOnce.{run_judged}
use Rattle.bus_moves.specs.Decoding.{move_of, is_move}
use Rattle.bus_moves.specs.Records.{records, all_moves, list_right, moves_of}
use Rattle.bus_moves.specs.Lists.{step_of, steps_from, steps, ran_to, run_of}
use Rattle.bus_moves.proofs.Turns.{run_last}

module _ (p : Plan) (ok : plan_refusal p ≡ 0) where
  -- no world of a run is out of range
  step_acts : (moves : List Move) (s : List ℕ) → is_move s ≡ true → step_of p (run p moves).world s ≡ world_act p (run p moves).world (move_of s)
  step_acts moves s e = ap (λ (b : Bool). judged (if_else b (world_act p (run p moves).world (move_of s)) (stays (run p moves).world 15))) e ∙ run_judged p ok moves (move_of s)
    where
      judged : Moved → Moved
      judged o = if_else (eqb (plan_refusal p) 0) (if_else (world_in_range (sleeps p) p.nodecount p.times (run p moves).world) o (stays (run p moves).world 11)) (stays (run p moves).world (plan_refusal p))

  steps-after : (moves : List Move) (l : List (List ℕ)) → all_moves l ≡ true → run_from p (run p moves) (map move_of l) ≡ steps_from p (run p moves) l
  unfolding all_moves
  steps-after moves [] e = refl
  steps-after moves (s ∷ l) e =
      let more : run p (moves ++ (move_of s ∷ [])) ≡ then (run p moves) (world_act p (run p moves).world (move_of s)) = run_last p (start p) moves (move_of s) in
      ap (λ (r : Run). run_from p r (map move_of l)) (sym more) ∙ steps-after (moves ++ (move_of s ∷ [])) l (and_r (is_move s) (all_moves l) e)
      ∙ ap (λ (r : Run). steps_from p r l) more ∙ ap (λ (o : Moved). steps_from p (then (run p moves) o) l) (sym (step_acts moves s (and_l (is_move s) (all_moves l) e)))

  -- the machines are those that the steps leave, and what demand 3 is told is what passed in them, the latest first
  pub run-steps : (s : List ℕ) → list_right s ≡ true → run p (moves_of s) ≡ steps p (records s)
  run-steps s e = steps-after [] (records s) e

  -- so `run` is the fold of `step`
  pub ran_steps : (s : List ℕ) → list_right s ≡ true → run_of p s ≡ ran_to 0 (steps p (records s)).world
  ran_steps s e = rw (eq-eqb (plan_refusal p) 0 ok, e) (ap (λ (r : Run). ran_to 0 r.world) (run-steps s e))
