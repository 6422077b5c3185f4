-- The row of a ReqId.
use Rattle.std.specs.Prelude.{ℕ, zero, suc, min, List, Bool, ltb, eqb, Option, Some, None}
use Rattle.base_lists.specs.Bounded.{if_else, first_to}
use Rattle.set_plan.specs.declared.Row.{Row}
use Rattle.set_plan.specs.declared.Plan.{Plan}
use Rattle.set_plan.specs.Record.{row_at, rows_used}

unfoldable pub has_reqid : List Row → ℕ → ℕ → Bool
has_reqid rows reqid j = eqb (row_at rows j).reqid reqid

-- row j, where j is below n
abbrev pub row_below : List Row → ℕ → ℕ → Option Row
row_below rows n j = if_else (ltb j n) (Some (row_at rows j)) None

-- the first row of a ReqId among the first n
unfoldable pub row_among : List Row → ℕ → ℕ → Option Row
row_among rows reqid n = row_below rows n (first_to (has_reqid rows reqid) n)

-- among the rows in use; in an accepted plan at most one has the ReqId
unfoldable pub find_row : Plan → ℕ → Option Row
find_row p reqid = row_among p.rows reqid (rows_used p.rowcount)

-- the last row of a ReqId among the first n
unfoldable pub last_among : List Row → ℕ → ℕ → Option Row
last_among rows reqid zero = None
last_among rows reqid (suc n) = if_else (has_reqid rows reqid n) (Some (row_at rows n)) (last_among rows reqid n)

-- the row of a ReqId where rows rise: its place is below its ReqId, and is looked for from there down
unfoldable pub rising_row : Plan → ℕ → Option Row
rising_row p reqid = last_among p.rows reqid (min reqid (rows_used p.rowcount))
