-- A list of moves from power-on, and what passed in them.
use Rattle.std.specs.Prelude.{List, [], ◌∷◌}
use Rattle.set_plan.specs.declared.Plan.{Plan}
use Rattle.bus.specs.declared.Move.{Move}
use Rattle.bus.specs.declared.World.{World}
use Rattle.bus.specs.Moves.{world_act}
use Rattle.bus.specs.declared.Moved.{Moved}
use Rattle.bus.specs.declared.Passed.{Passed}
use Rattle.bus.specs.World.{power_on}
use Rattle.set_plan.specs.Profile.{sleeps}

-- the machines after some moves, and what passed in each, the latest first: the past grows at its head as the list runs
pub record Run : Type 0 where
  pub world : World
  pub past : List Passed

-- "The first starts from power-on .. nothing else writes them"
abbrev pub start : Plan → Run
start p = record { world = power_on (sleeps p); past = [] }

abbrev pub then : Run → Moved → Run
then r o = record { world = o.world; past = o.passed ∷ r.past }

-- "each other from the states that the one before left, refused or not"
abbrev pub run_from : Plan → Run → List Move → Run
run_from p r [] = r
run_from p r (m ∷ moves) = run_from p (then r (world_act p r.world m)) moves

abbrev pub run : Plan → List Move → Run
run p moves = run_from p (start p) moves
