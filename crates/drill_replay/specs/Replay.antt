-- Recorded moves: what each record does and prints.
use Rattle.std.specs.Prelude.{◌≡◌, ℕ, List, [], ◌∷◌, ◌++◌}
use Rattle.base_lists.specs.Bounded.{if_else}
use Rattle.set_plan.specs.declared.Plan.{Plan}
use Rattle.bus.specs.declared.Moved.{Moved}
use Rattle.bus.specs.declared.World.{World}
use Rattle.bus.specs.Moves.{world_act}
use Rattle.set_plan.specs.Profile.{sleeps}
use Rattle.bus.specs.World.{power_on}
use Rattle.base_text.specs.Text.{Shown}
use Rattle.drill_text.specs.Lines.{moved_line, bad_line, next_line}
use Rattle.bus_moves.specs.Decoding.{move_of, is_move}
use Rattle.bus_moves.specs.Records.{records}
use Rattle.drill_replay.specs.declared.Replay.{Replay}
use Rattle.drill_replay.specs.declared.Fed.{Fed}

-- what the move of a record gives
unfoldable pub record_moved : Plan → World → List ℕ → Moved
record_moved plan world s = world_act plan world (move_of s)

-- the world after a record: bytes that are no move change nothing
unfoldable pub world_after : Plan → World → List ℕ → World
world_after plan world s = if_else (is_move s) (record_moved plan world s).world world

-- what a record prints: the drill's line of its move, or its number and `?`
unfoldable pub record_text : Plan → World → ℕ → List ℕ → List ℕ
record_text plan world number s =
    if_else (is_move s) (moved_line plan number (record_moved plan world s)) (bad_line number)

-- "from power-on", nothing read
abbrev pub started : Plan → Replay
started plan = record { plan = plan; world = power_on (sleeps plan); count = 0 }

-- a record more
abbrev pub after : Replay → List ℕ → Replay
after r s = record { plan = r.plan; world = world_after r.plan r.world s; count = next_line r.count }

-- after some records
unfoldable pub after_all : Replay → List (List ℕ) → Replay
after_all r [] = r
after_all r (s ∷ more) = after_all (after r s) more

-- what they print, one behind the other
unfoldable pub all_printed : Replay → List (List ℕ) → List ℕ
all_printed r [] = []
all_printed r (s ∷ more) = record_text r.plan r.world (next_line r.count) s ++ all_printed (after r s) more

-- after a piece of input, record by record
abbrev pub replayed : Replay → List ℕ → Replay
replayed r input = after_all r (records input)

-- what a piece prints: a last record that is short is no move
abbrev pub printed : Replay → List ℕ → List ℕ
printed r input = all_printed r (records input)

-- the answer fed: a replay, and a text at the front of the buffer l, which is then l'
pub record Gives (r : Replay) (text l l' : List ℕ) (fed : Fed) : Type 0 where
  pub state : fed.replay ≡ r
  pub shown : Shown text l l' fed.length
