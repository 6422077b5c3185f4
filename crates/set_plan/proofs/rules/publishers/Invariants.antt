-- The numbers so far are marked. Assumes nothing.
use Rattle.std.proofs.Common.{ℕ, ◌≡◌, ◌<◌, false, length, get_or}
use Rattle.base_lists.specs.Bounded.{any_to}
use Rattle.set_plan.specs.Rules.{is_from}
use Rattle.set_plan.proofs.rules.publishers.Given as goal

abbrev pub invariant-loop-row : goal.invariant-loop-row
invariant-loop-row l = record {
  size : length l.seen ≡ 256;
  marked : (k : ℕ) → k < 256 → get_or l.seen k false ≡ any_to (is_from l.rows k) l.row-index;
}
