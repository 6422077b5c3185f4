-- Bytes as records of 16, and as a list of moves.
use Rattle.std.specs.Prelude.{ℕ, ◌+◌, ◌*◌, ◌/◌, Bool, true, ◌&&◌, List, [], ◌∷◌, map, length, take, drop}
use Rattle.base_lists.specs.Bounded.{tab}
use Rattle.bus.specs.declared.Move.{Move}
use Rattle.bus_moves.specs.Decoding.{move_length, move_of, is_move}

-- record k, counted from 0: 16 bytes, fewer where they end in it
abbrev pub record_at : List ℕ → ℕ → List ℕ
record_at s k = take move_length (drop (move_length * k) s)

-- how many records there are, a short last one too
abbrev pub record_count : List ℕ → ℕ
record_count s = (length s + 15) / move_length

-- the bytes record by record
unfoldable pub records : List ℕ → List (List ℕ)
records s = tab (record_count s) (record_at s)

-- whether each of some records is a move
unfoldable pub all_moves : List (List ℕ) → Bool
all_moves [] = true
all_moves (s ∷ more) = is_move s && all_moves more

-- bytes are a list of moves: whole records, each a move
abbrev pub list_right : List ℕ → Bool
list_right s = all_moves (records s)

-- the moves, in time order
abbrev pub moves_of : List ℕ → List Move
moves_of s = map move_of (records s)
