use Prim.Native.Nat.{ℕ, ◌<◌}
use mathlib.Core.Path.{◌≡◌}
use mathlib.Core.Bool.{true, false}
use lib.ListN.{length, get_or}
use Rattle.base_lists.specs.Bounded.{all_to, any_to}
use Rattle.set_plan.specs.Rules.{reqid_before, row_right, is_from, publishes}
use Rattle.set_record.specs.Record.{plan_in}
use Rattle.set_record.proofs.fields.Record.judge_rows.Given as goal

abbrev pub invariant-loop-j : goal.invariant-loop-j
invariant-loop-j l = record { right : all_to (row_right l.nodecount (plan_in l.self.bytes.now).rows) l.j ≡ true; before : l.before ≡ reqid_before (plan_in l.self.bytes.now).rows l.j; long : length l.seen ≡ 256; marked : (k : ℕ) → k < 256 → get_or l.seen k false ≡ any_to (is_from (plan_in l.self.bytes.now).rows k) l.j }

abbrev pub invariant-loop-k : goal.invariant-loop-k
invariant-loop-k l = all_to (publishes (plan_in l.self.bytes.now).rows l.count) l.k ≡ true
