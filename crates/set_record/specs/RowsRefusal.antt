-- What the rows alone are refused for.
use Rattle.std.specs.Prelude.{ℕ, List}
use Rattle.base_lists.specs.Bounded.{if_else, all_to}
use Rattle.set_plan.specs.declared.Row.{Row}
use Rattle.set_plan.specs.Rules.{row_right, publishes}

-- 7 and 8 of so many rows
unfoldable pub rows_refusal : List Row → ℕ → ℕ → ℕ
rows_refusal rows nodecount count = if_else (all_to (row_right nodecount rows) count) (if_else (all_to (publishes rows count) nodecount) 0 8) 7
