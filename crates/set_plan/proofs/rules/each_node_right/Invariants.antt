-- Each node so far is right, and its address is marked. Assumes nothing.
use Rattle.std.proofs.Common.{ℕ, List, ◌<◌, ◌≡◌, true, false, length, get_or}
use Rattle.base_lists.specs.Bounded.{all_to, any_to}
use Rattle.set_plan.specs.declared.NodeEntry.{NodeEntry}
use Rattle.set_plan.specs.Record.{entry_at}
use Rattle.set_plan.specs.Rules.{node_right}
use Rattle.set_plan.proofs.Addresses.{has_address}
use Rattle.set_plan.proofs.rules.each_node_right.Given as goal

abbrev pub invariant-loop-k : goal.invariant-loop-k
invariant-loop-k g l = record {
  size : length l.taken ≡ 256;
  right : (nodes : List NodeEntry) → ((k : ℕ) (e : NodeEntry) → k < l.count → goal.E-post g l.entry k e → e ≡ entry_at nodes k)
      → all_to (node_right nodes) l.k ≡ true;
  marked : (nodes : List NodeEntry) → ((k : ℕ) (e : NodeEntry) → k < l.count → goal.E-post g l.entry k e → e ≡ entry_at nodes k)
      → (a : ℕ) → a < 256 → get_or l.taken a false ≡ any_to (has_address nodes a) l.k;
}
