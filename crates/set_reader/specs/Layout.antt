-- Where a set's bytes hold the values of the plan record.
use Rattle.std.specs.Prelude.{ℕ, ◌+◌, ◌*◌, List, Bool, length, ltb, eqb}
use Rattle.base_lists.specs.Bounded.{if_else, tab}
use Rattle.base_bytes.specs.Bytes.{byte, number}
use Rattle.set_plan.specs.declared.NodeEntry.{NodeEntry}
use Rattle.set_plan.specs.declared.Row.{Row}
use Rattle.set_plan.specs.declared.Plan.{Plan}
use Rattle.set_plan.specs.Limits.{max_nodes, max_rows, block_rows}
use Rattle.set_plan.specs.Record.{zero_entry, zero_row}
use Rattle.set_record.specs.Entries.{times_from, entry_from, row_from}

-- "From 32, N entries": "unused places zero"
unfoldable pub entry_of : List ℕ → ℕ → ℕ → NodeEntry
entry_of s count k = if_else (ltb k count) (entry_from s (32 + 4 * k)) zero_entry

unfoldable pub entries_of : List ℕ → ℕ → List NodeEntry
entries_of s count = tab max_nodes (entry_of s count)

-- "from 8, rows": row 100 is the first of the second message block, at 1024 + 8
unfoldable pub row_place : ℕ → ℕ
row_place j = if_else (ltb j block_rows) (520 + 4 * j) (632 + 4 * j)

-- "unused places zero"
unfoldable pub row_of : List ℕ → ℕ → ℕ → Row
row_of s count j = if_else (ltb j count) (row_from s (row_place j)) zero_row

unfoldable pub rows_of : List ℕ → ℕ → List Row
rows_of s count = tab max_rows (row_of s count)

-- "one or two message blocks"
abbrev pub one_message_block : List ℕ → Bool
one_message_block s = eqb (length s) 1024

-- "4 = rows, .. exactly 100 in the first of two"
unfoldable pub rowcount_of : List ℕ → ℕ
rowcount_of s = if_else (one_message_block s) (byte s 516) (block_rows + byte s 1028)

-- "2-3 revision", "4 = N, nodes", "Byte 5 .. is 1 for this profile and 0 otherwise", "6-19 seven times"
unfoldable pub plan_of : List ℕ → Plan
plan_of s =
    record { revision = number s 2; profile = byte s 5; nodecount = byte s 4; times = times_from s 6; nodes = entries_of s (byte s 4); rowcount = rowcount_of s; rows = rows_of s (rowcount_of s) }
