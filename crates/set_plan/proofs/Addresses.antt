-- Addresses that are marked as they come, and the rule that they differ.
use Prim.Native.Nat.{ℕ}
use mathlib.Core.Path.{◌≡◌, ap, ◌∙◌}
use mathlib.Core.Bool.{Bool, true, false, not, ◌&&◌, and-false}
use mathlib.Core.List.{List}
use lib.Dec.{eqb}
use Rattle.base_lists.specs.Bounded.{any_to}
use Rattle.base_lists.proofs.AllAny.{all_not}
use Rattle.set_plan.specs.declared.NodeEntry.{NodeEntry}
use Rattle.set_plan.specs.Record.{entry_at}
use Rattle.set_plan.specs.Rules.{entry_right, differs, node_right}

-- entry j has an address
unfoldable pub has_address : List NodeEntry → ℕ → ℕ → Bool
has_address nodes address j = eqb (entry_at nodes j).address address

-- a node is right where its entry is, and its address is none of those before
pub right_marked : (nodes : List NodeEntry) (k : ℕ) → node_right nodes k ≡ (entry_right (entry_at nodes k) && not (any_to (has_address nodes (entry_at nodes k).address) k))
unfolding node_right differs has_address
right_marked nodes k = ap (λ b. entry_right (entry_at nodes k) && b) (all_not (λ j. eqb (entry_at nodes j).address (entry_at nodes k).address) k)

pub wrong_entry : (nodes : List NodeEntry) (k : ℕ) → entry_right (entry_at nodes k) ≡ false → node_right nodes k ≡ false
wrong_entry nodes k e = right_marked nodes k ∙ rw e

pub again : (nodes : List NodeEntry) (k : ℕ) → any_to (has_address nodes (entry_at nodes k).address) k ≡ true → node_right nodes k ≡ false
again nodes k e = right_marked nodes k ∙ rw (e, and-false)

pub right_new : (nodes : List NodeEntry) (k : ℕ) → entry_right (entry_at nodes k) ≡ true → any_to (has_address nodes (entry_at nodes k).address) k ≡ false → node_right nodes k ≡ true
right_new nodes k e h = right_marked nodes k ∙ rw (e, h)
