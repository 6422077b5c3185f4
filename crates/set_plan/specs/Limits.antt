-- The limits of a plan. Each has a constant of the same number in the code, which a promise holds to it.
use Rattle.std.specs.Prelude.{ℕ}

-- "N, nodes, 1 to 16": `Plan::NODES`
abbrev pub max_nodes : ℕ
max_nodes = 16

-- "rows in all 1 to 127": `Plan::ROWS`
abbrev pub max_rows : ℕ
max_rows = 127

-- "rows, 1 to 100": `Plan::BLOCK_ROWS`
abbrev pub block_rows : ℕ
block_rows = 100

-- "ReqId 1 to 127", and "a table of 128 places": `Row::REQIDS`
abbrev pub reqids : ℕ
reqids = 128

-- "count 0 to 3": `Row::COUNTS`
abbrev pub seq_counts : ℕ
seq_counts = 4

-- "each 1 to 30,000": `Times::LEAST`, `Times::MOST`
abbrev pub least_time : ℕ
least_time = 1

abbrev pub most_time : ℕ
most_time = 30000
