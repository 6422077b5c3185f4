-- The places of a plan record, used and unused.
use Rattle.std.specs.Prelude.{ℕ, min, List, get_or, replicate, ltb}
use Rattle.base_lists.specs.Bounded.{if_else, tab}
use Rattle.set_plan.specs.Limits.{max_nodes, max_rows}
use Rattle.set_plan.specs.declared.NodeEntry.{NodeEntry}
use Rattle.set_plan.specs.declared.Row.{Row}
use Rattle.set_plan.specs.declared.Times.{Times}
use Rattle.set_plan.specs.declared.Plan.{Plan}

-- what an unused place holds
abbrev pub zero_entry : NodeEntry
zero_entry = record { address = 0; class = 0; method = 0; reserved = 0 }

abbrev pub zero_row : Row
zero_row = record { reqid = 0; publisher = 0; length = 0; kind = 0 }

abbrev pub zero_times : Times
zero_times = record { window = 0; stop = 0; sleep = 0; quiet = 0; recovery = 0; space = 0; start = 0 }

-- the all-zero record of a refused read
unfoldable pub zero_plan : Plan
zero_plan = record { revision = 0; profile = 0; nodecount = 0; times = zero_times; nodes = replicate max_nodes zero_entry; rowcount = 0; rows = replicate max_rows zero_row }

abbrev pub entry_at : List NodeEntry → ℕ → NodeEntry
entry_at nodes k = get_or nodes k zero_entry

abbrev pub row_at : List Row → ℕ → Row
row_at rows j = get_or rows j zero_row

-- of so many rows those that a record has places for
abbrev pub rows_used : ℕ → ℕ
rows_used count = min count max_rows

-- a record with its unused places zero
unfoldable pub used_entry : Plan → ℕ → NodeEntry
used_entry p k = if_else (ltb k p.nodecount) (entry_at p.nodes k) zero_entry

unfoldable pub used_row : Plan → ℕ → Row
used_row p j = if_else (ltb j p.rowcount) (row_at p.rows j) zero_row

unfoldable pub unused_zero : Plan → Plan
unused_zero p =
    record { revision = p.revision; profile = p.profile; nodecount = p.nodecount; times = p.times; nodes = tab max_nodes (used_entry p); rowcount = p.rowcount; rows = tab max_rows (used_row p) }
