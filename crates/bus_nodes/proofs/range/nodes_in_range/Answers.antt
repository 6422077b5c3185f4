-- The nodes used are the first of the table. Assumes nothing.
use Rattle.std.proofs.Common.{ℕ, zero, suc, List, Bool, ◌≡◌, ◌≤◌, ◌&&◌, ◌∙◌, refl, sym, ap, length, take, get_or, arith, rules, add-one}
use Rattle.std.specs.List.{list_all}
use Rattle.std.proofs.lemmas.Iterator.{YieldsList-from_slice}
use Rattle.std.proofs.lemmas.Iterator.Search.{all_from_yields_List}
use Rattle.std.proofs.lemmas.List.Folds.{list_all_more}
use Rattle.base_lists.specs.Bounded.{all_to}
use Rattle.machine_node.specs.Range.{in_range}
use Rattle.bus_nodes.specs.Nodes.{no_node, node_in_range}
use Rattle.bus_nodes.proofs.range.nodes_in_range.Goals as goal

all_first : {A : Type 0} (p : A → Bool) (xs : List A) (d : A) (n : ℕ) → n ≤ length xs → list_all p (take n xs) ≡ all_to (λ k. p (get_or xs k d)) n
unfolding all_to
all_first p xs d zero h = refl
all_first p xs d (suc n) h =
    ap (λ k. list_all p (take k xs)) (sym (add-one n)) ∙ list_all_more p xs n d (omega arith) ∙ ap (λ b. b && p (get_or xs n d)) (all_first p xs d n (omega arith))

pub returns : goal.returns
unfolding node_in_range
returns c =
    let right = in_range c.args.sleeps c.args.times in
    all_from_yields_List right _ _ c.all.result c.all.ensures.ran (YieldsList-from_slice (take c.from.result c.args.nodes) (cc)) (λ x b q k. search rules)
    ∙ all_first right c.args.nodes no_node c.from.result (omega arith)
    ∙ ap (all_to (λ k. right (get_or c.args.nodes k no_node))) (c.from.ensures ∙ c.nodes_used.ensures)
