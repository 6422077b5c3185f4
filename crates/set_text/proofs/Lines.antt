-- Lines of nodes and rows, appended one by one.
use Prim.Native.Nat.{ℕ, zero, suc, ◌+◌, ◌≤◌}
use mathlib.Core.Path.{◌≡◌, refl, ap₂}
use mathlib.Core.List.{List, [], ◌++◌}
use lib.ListN.{take}
use Rattle.std.proofs.Common.{get_or-take}
use native.Mathlib.Numerals.{add-one}
use native.Mathlib.Omega.{arith}
use Rattle.set_plan.specs.declared.NodeEntry.{NodeEntry}
use Rattle.set_plan.specs.declared.Row.{Row}
use Rattle.set_plan.specs.Record.{entry_at, row_at, zero_entry, zero_row}
use Rattle.set_text.specs.Show.{node_line, nodes_text, row_line, rows_text}

-- none yet, and one more
pub nodes_none : (nodes : List NodeEntry) → nodes_text nodes 0 ≡ []
unfolding nodes_text
nodes_none nodes = refl

pub nodes_more : (nodes : List NodeEntry) (k : ℕ) → nodes_text nodes (k + 1) ≡ nodes_text nodes k ++ node_line k (entry_at nodes k)
unfolding nodes_text
nodes_more nodes k = rw add-one

pub rows_none : (rows : List Row) → rows_text rows 0 ≡ []
unfolding rows_text
rows_none rows = refl

pub rows_more : (rows : List Row) (j : ℕ) → rows_text rows (j + 1) ≡ rows_text rows j ++ row_line (row_at rows j)
unfolding rows_text
rows_more rows j = rw add-one

pub ruleset lines = (nodes_none, nodes_more, rows_none, rows_more)

-- those of the front of a table
pub nodes_front : (nodes : List NodeEntry) (n k : ℕ) → k ≤ n → nodes_text (take n nodes) k ≡ nodes_text nodes k
unfolding nodes_text
nodes_front nodes n zero p = refl
nodes_front nodes n (suc k) p = ap₂ (λ text e. text ++ node_line k e) (nodes_front nodes n k (omega arith)) (get_or-take n nodes k zero_entry p)

pub rows_front : (rows : List Row) (n j : ℕ) → j ≤ n → rows_text (take n rows) j ≡ rows_text rows j
unfolding rows_text
rows_front rows n zero p = refl
rows_front rows n (suc j) p = ap₂ (λ text r. text ++ row_line r) (rows_front rows n j (omega arith)) (get_or-take n rows j zero_row p)

pub ruleset fronts = (nodes_front, rows_front)
