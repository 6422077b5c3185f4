-- The loop over a list of moves: one more, a record that is none, and the end.
use Prim.Native.Nat.{ℕ, ◌+◌, ◌<◌}
use mathlib.Core.Path.{◌≡◌, refl, sym, ap, ◌∙◌}
use mathlib.Core.Bool.{Bool, true, false}
use mathlib.Core.List.{List, [], ◌∷◌, ◌++◌}
use native.Mathlib.Numerals.{add-one}
use Rattle.base_lists.specs.Bounded.{if_else, all_to, tab}
use Rattle.base_lists.proofs.AllAny.{all_false}
use Rattle.set_plan.specs.declared.Plan.{Plan}
use Rattle.set_plan.specs.Profile.{sleeps}
use Rattle.bus.specs.declared.Move.{Move}
use Rattle.bus.specs.declared.Moved.{Moved}
use Rattle.bus.specs.declared.World.{World}
use Rattle.bus.specs.Moves.{world_act}
use Rattle.bus.specs.World.{power_on}
use Rattle.bus_history.specs.Run.{Run, then, run_from, run, start}
use Rattle.bus_moves.specs.declared.Ran.{Ran}
use Rattle.bus_moves.specs.Decoding.{move_of, is_move}
use Rattle.bus_moves.specs.Records.{record_at, record_count, records, list_right, moves_of}
use Rattle.bus_moves.specs.Lists.{ran_to, ran_over}
use Rattle.bus_moves.proofs.ByRecord.{tab_last, map-tab, moves_tab}

pub run_last : (p : Plan) (r : Run) (moves : List Move) (m : Move) → run_from p r (moves ++ (m ∷ [])) ≡ then (run_from p r moves) (world_act p (run_from p r moves).world m)
run_last p r [] m = refl
run_last p r (x ∷ moves) m = run_last p (then r (world_act p r.world x)) moves m

pub run_none : (p : Plan) (f : ℕ → Move) (world : World) → world ≡ power_on (sleeps p) → world ≡ (run p (tab 0 f)).world
unfolding tab
run_none p f world e = e

-- the world after one move more
pub run_more : (p : Plan) (f : ℕ → Move) (k : ℕ) (world : World) (m : Move) (r : Moved) → world ≡ (run p (tab k f)).world → m ≡ f k → r ≡ world_act p world m
    → r.world ≡ (run p (tab (k + 1) f)).world
run_more p f k world m r e q h =
    ap (λ (x : Moved). x.world) h ∙ ap (λ (x : World). (world_act p x m).world) e ∙ ap (λ (x : Move). (world_act p (run p (tab k f)).world x).world) q
    ∙ sym (ap (λ (x : Run). x.world) (run_last p (start p) (tab k f) (f k))) ∙ sym (ap (λ (l : List Move). (run p l).world) (tab_last k f))
    ∙ ap (λ (j : ℕ). (run p (tab j f)).world) (sym (add-one k))

module _ (p : Plan) (s : List ℕ) (k : ℕ) where
  pub ran_stopped : {r : Ran} → k < record_count s → is_move (record_at s k) ≡ false → r ≡ ran_to 15 (power_on (sleeps p)) → r ≡ ran_over p s
  unfolding records
  ran_stopped l e h =
      let wrong : list_right s ≡ false = moves_tab (record_count s) (record_at s) ∙ all_false (λ i. is_move (record_at s i)) (record_count s) k l e in
      h ∙ ap (λ (b : Bool). if_else b (ran_to 0 (run p (moves_of s)).world) (ran_to 15 (power_on (sleeps p)))) (sym wrong)

  pub ran_all : {w : World} → k ≡ record_count s → all_to (λ i. is_move (record_at s i)) k ≡ true → w ≡ (run p (tab k (λ i. move_of (record_at s i)))).world → ran_to 0 w ≡ ran_over p s
  unfolding records
  ran_all n e h =
      let right : list_right s ≡ true = moves_tab (record_count s) (record_at s) ∙ ap (all_to (λ i. is_move (record_at s i))) (sym n) ∙ e in
      let moves : tab k (λ i. move_of (record_at s i)) ≡ moves_of s = ap (λ (j : ℕ). tab j (λ i. move_of (record_at s i))) n ∙ sym (map-tab move_of (record_count s) (record_at s)) in
      ap (ran_to 0) (h ∙ ap (λ (l : List Move). (run p l).world) moves) ∙ ap (λ (b : Bool). if_else b (ran_to 0 (run p (moves_of s)).world) (ran_to 15 (power_on (sleeps p)))) (sym right)
