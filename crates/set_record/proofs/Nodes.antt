-- The entries, judged by their addresses so far.
use Prim.Native.Nat.{ℕ}
use mathlib.Core.Path.{◌≡◌, ap, sym, ◌∙◌}
use mathlib.Core.Bool.{true, false}
use mathlib.Core.List.{List}
use Rattle.base_lists.specs.Bounded.{any_to}
use Rattle.set_plan.specs.declared.NodeEntry.{NodeEntry}
use Rattle.set_plan.specs.Record.{entry_at}
use Rattle.set_plan.specs.Rules.{entry_right, node_right}
use Rattle.set_plan.proofs.Addresses.{has_address, wrong_entry, again, right_new}

module _ (nodes : List NodeEntry) (k : ℕ) (e : NodeEntry) (is : e ≡ entry_at nodes k) where
  pub its_address : (entry_at nodes k).address ≡ e.address
  its_address = ap (λ (x : NodeEntry). x.address) (sym is)

  pub wrong : entry_right e ≡ false → node_right nodes k ≡ false
  wrong w = wrong_entry nodes k (ap entry_right (sym is) ∙ w)

  pub taken_again : any_to (has_address nodes e.address) k ≡ true → node_right nodes k ≡ false
  taken_again w = again nodes k (ap (λ a. any_to (has_address nodes a) k) its_address ∙ w)

  pub right : entry_right e ≡ true → any_to (has_address nodes e.address) k ≡ false → node_right nodes k ≡ true
  right v w = right_new nodes k (ap entry_right (sym is) ∙ v) (ap (λ a. any_to (has_address nodes a) k) its_address ∙ w)
