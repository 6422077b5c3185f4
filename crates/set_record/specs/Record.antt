-- A packed plan record: the record's values as bytes, every place, used or not.
use Rattle.std.specs.Prelude.{ℕ, ◌+◌, ◌*◌, ◌-◌, List, ◌∷◌, ◌++◌, length, get_or, drop, ltb, eqb}
use Rattle.base_lists.specs.Bounded.{if_else, tab}
use Rattle.base_bytes.specs.Bytes.{byte, number, two_bytes}
use Rattle.set_plan.specs.declared.NodeEntry.{NodeEntry}
use Rattle.set_plan.specs.declared.Row.{Row}
use Rattle.set_plan.specs.declared.Times.{Times}
use Rattle.set_plan.specs.declared.Plan.{Plan}
use Rattle.set_plan.specs.Limits.{max_nodes, max_rows}
use Rattle.set_plan.specs.Record.{zero_plan}
use Rattle.set_record.specs.Entries.{times_from, times_bytes, entry_from, entry_byte_at, row_from, row_byte_at}
use Rattle.set_record.specs.Offsets.{revision_at, nodecount_at, rowcount_at, times_at, entries_at, rows_at, profile_at, record_length}

-- the entry and the row at a place
abbrev pub record_entry : List ℕ → ℕ → NodeEntry
record_entry s k = entry_from s (entries_at + 4 * k)

abbrev pub record_row : List ℕ → ℕ → Row
record_row s j = row_from s (rows_at + 4 * j)

abbrev pub entries_in : List ℕ → List NodeEntry
entries_in s = tab max_nodes (record_entry s)

abbrev pub rows_in : List ℕ → List Row
rows_in s = tab max_rows (record_row s)

-- the plan in the bytes of a record
abbrev pub plan_in : List ℕ → Plan
plan_in s =
    record { revision = number s revision_at; profile = byte s profile_at; nodecount = byte s nodecount_at; times = times_from s times_at; nodes = entries_in s; rowcount = number s rowcount_at; rows = rows_in s }

-- bytes of another length are the all-zero record
unfoldable pub record_of : List ℕ → Plan
record_of s = if_else (eqb (length s) record_length) (plan_in s) zero_plan

-- the bytes before the entries
unfoldable pub record_head : ℕ → ℕ → ℕ → Times → List ℕ
record_head revision nodecount rowcount times = two_bytes revision ++ nodecount ∷ two_bytes rowcount ++ times_bytes times

-- byte o of a plan's record
unfoldable pub record_byte : Plan → ℕ → ℕ
record_byte p o =
    if_else (ltb o entries_at) (get_or (record_head p.revision p.nodecount p.rowcount p.times) o 0)
    (if_else (ltb o rows_at) (entry_byte_at p.nodes (o - entries_at))
    (if_else (ltb o profile_at) (row_byte_at p.rows (o - rows_at)) p.profile))

unfoldable pub record_bytes : Plan → List ℕ
record_bytes p = tab record_length (record_byte p)

-- a buffer with a plan's record at its front: bytes past the record stay, and so does a buffer that is too short
abbrev pub record_written : Plan → List ℕ → List ℕ
record_written p buffer = if_else (ltb (length buffer) record_length) buffer (record_bytes p ++ drop record_length buffer)
