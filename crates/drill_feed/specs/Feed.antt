-- The drill: what its input does and prints, byte by byte and line by line.
use Rattle.std.specs.Prelude.{◌≡◌, ℕ, ◌+◌, Bool, List, [], ◌∷◌, ◌++◌, length, take, replicate, ◌==◌, nat_lt, slice_set, Option, Some, None}
use Rattle.base_lists.specs.Bounded.{if_else}
use Rattle.set_plan.specs.declared.Plan.{Plan}
use Rattle.bus.specs.declared.Act.{Act}
use Rattle.bus.specs.declared.Fate.{Fate}
use Rattle.bus.specs.declared.World.{World}
use Rattle.bus.specs.declared.Moved.{Moved}
use Rattle.set_plan.specs.Profile.{sleeps}
use Rattle.bus.specs.World.{power_on}
use Rattle.bus.specs.Moves.{world_act}
use Rattle.base_text.specs.Text.{Shown}
use Rattle.drill_line.specs.declared.LineMove.{LineMove}
use Rattle.drill_line.specs.Words.{cut}
use Rattle.drill_line.specs.Parse.{parse_line, on_drill_bus}
use Rattle.drill_text.specs.Lines.{moved_line, bad_line, next_line}
use Rattle.drill_feed.specs.declared.Held.{Held}
use Rattle.drill_feed.specs.declared.Drill.{Drill}
use Rattle.drill_feed.specs.declared.Fed.{Fed}

-- what a line's move gives
unfoldable pub line_moved : Plan → World → Act → Bool → Fate → Moved
line_moved plan world act reached fate = world_act plan world (on_drill_bus act reached fate)

-- the world after a line: "Any other line .. counts", and moves nothing
abbrev pub world_after : Plan → World → Option LineMove → World
world_after plan world (Some line) = (line_moved plan world line.act line.reached line.fate).world
world_after plan world None = world

-- what a line prints
abbrev pub line_text : Plan → World → ℕ → Option LineMove → List ℕ
line_text plan world number (Some line) = moved_line plan number (line_moved plan world line.act line.reached line.fate)
line_text plan world number None = bad_line number

-- what so many lines and more print, the input cut at each LF: "Lines end in LF, which the last may lack"
unfoldable pub lines_text : Plan → World → ℕ → List (List ℕ) → List ℕ
lines_text plan world lines [] = []
lines_text plan world lines (l ∷ []) = if_else (length l == 0) [] (line_text plan world (next_line lines) (parse_line l plan.nodecount))
lines_text plan world lines (l ∷ m ∷ more) =
    line_text plan world (next_line lines) (parse_line l plan.nodecount)
    ++ lines_text plan (world_after plan world (parse_line l plan.nodecount)) (next_line lines) (m ∷ more)

-- what the drill prints for an input, from power-on
abbrev pub drill_text : Plan → List ℕ → List ℕ
drill_text plan input = lines_text plan (power_on (sleeps plan)) 0 (cut 10 input)

-- the same byte by byte, as the input comes

-- of a line that has not ended so many bytes are held, the others dropped
abbrev pub room : ℕ
room = 32

abbrev pub empty_held : Held
empty_held = record { bytes = replicate room 0; count = 0 }

abbrev pub hold_byte : Held → ℕ → Held
hold_byte held b = if_else (nat_lt held.count room) (record { bytes = slice_set held.bytes held.count b; count = held.count + 1 }) held

unfoldable pub hold_all : Held → List ℕ → Held
hold_all held [] = held
hold_all held (b ∷ bytes) = hold_all (hold_byte held b) bytes

abbrev pub held_text : Held → List ℕ
held_text held = take held.count held.bytes

abbrev pub started : Plan → Drill
started plan = record { plan = plan; world = power_on (sleeps plan); lines = 0; held = empty_held }

abbrev pub held_line : Drill → Option LineMove
held_line d = parse_line (held_text d.held) d.plan.nodecount

-- the held line ends
unfoldable pub ended : Drill → Drill
ended d = record { plan = d.plan; world = world_after d.plan d.world (held_line d); lines = next_line d.lines; held = empty_held }

unfoldable pub line_printed : Drill → List ℕ
line_printed d = line_text d.plan d.world (next_line d.lines) (held_line d)

abbrev pub keeps : Drill → Held → Drill
keeps d held = record { plan = d.plan; world = d.world; lines = d.lines; held = held }

-- a byte, and bytes: the drill after them, and what they print
abbrev pub byte_fed : Drill → ℕ → Drill
byte_fed d b = if_else (b == 10) (ended d) (keeps d (hold_byte d.held b))

abbrev pub byte_printed : Drill → ℕ → List ℕ
byte_printed d b = if_else (b == 10) (line_printed d) []

unfoldable pub fed : Drill → List ℕ → Drill
fed d [] = d
fed d (b ∷ bytes) = fed (byte_fed d b) bytes

unfoldable pub printed : Drill → List ℕ → List ℕ
printed d [] = []
printed d (b ∷ bytes) = byte_printed d b ++ printed (byte_fed d b) bytes

-- the end of the input
unfoldable pub last_fed : Drill → Drill
last_fed d = if_else (d.held.count == 0) d (ended d)

unfoldable pub last_printed : Drill → List ℕ
last_printed d = if_else (d.held.count == 0) [] (line_printed d)

-- the whole of it
unfoldable pub all_printed : Drill → List ℕ → List ℕ
all_printed d input = printed d input ++ last_printed (fed d input)

-- a drill and a text: the answer r, and the buffer l' that was l, at whose front the text stands
pub record GivesFirst (d : Drill) (text l l' : List ℕ) (r : Fed) : Type 0 where
  pub state : r.drill ≡ d
  pub shown : Shown text l l' r.length
