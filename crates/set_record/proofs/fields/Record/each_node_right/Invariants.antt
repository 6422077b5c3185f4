use Prim.Native.Nat.{ℕ, ◌<◌}
use mathlib.Core.Path.{◌≡◌}
use mathlib.Core.Bool.{true, false}
use lib.ListN.{length, get_or}
use Rattle.base_lists.specs.Bounded.{all_to, any_to}
use Rattle.set_plan.specs.Rules.{node_right}
use Rattle.set_plan.proofs.Addresses.{has_address}
use Rattle.set_record.specs.Record.{plan_in}
use Rattle.set_record.proofs.fields.Record.each_node_right.Given as goal

abbrev pub invariant-loop-k : goal.invariant-loop-k
invariant-loop-k l = record { right : all_to (node_right (plan_in l.self.bytes.now).nodes) l.k ≡ true; long : length l.taken ≡ 256; marked : (a : ℕ) → a < 256 → get_or l.taken a false ≡ any_to (has_address (plan_in l.self.bytes.now).nodes a) l.k }
