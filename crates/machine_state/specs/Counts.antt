-- A table of sequence counts by ReqId.
use Rattle.std.specs.Prelude.{ℕ, Bool, List, ltb, get_or}
use Rattle.base_lists.specs.Bounded.{all_to}
use Rattle.set_plan.specs.Limits.{reqids}

abbrev pub count_below : ℕ → List ℕ → ℕ → Bool
count_below limit counts reqid = ltb (get_or counts reqid 0) limit

-- each count of the table lies below a limit
unfoldable pub counts_below : ℕ → List ℕ → Bool
counts_below limit counts = all_to (count_below limit counts) reqids
