-- The refusal of the rows in the bytes, by the way that their judge takes.
use Rattle.std.proofs.Common.{◌≡◌, ◌≤◌, [], ◌∷◌, Bool, true, false, ap, refl}
use Rattle.base_lists.specs.Bounded.{if_else, all_to}
use Rattle.base_lists.specs.FirstBroken.{first_broken}
use Rattle.set_plan.specs.declared.Plan.{Plan}
use Rattle.set_plan.specs.Record.{rows_used}
use Rattle.set_plan.specs.Rules.{between, row_right, rows_right, publishes, all_publish}
use Rattle.set_record.specs.RowsRefusal.{rows_refusal}
use native.Mathlib.Omega.{arith}
use borrow.Author.Tests.{leb-true}
use Rattle.base_lists.proofs.AllAny.{and_r}

module _ (p : Plan) where
  all_rows : p.rowcount ≤ 127 → all_publish p ≡ all_to (publishes p.rows p.rowcount) p.nodecount
  unfolding all_publish
  all_rows m =
      let e : rows_used p.rowcount ≡ p.rowcount = omega arith in
      ap (λ n. all_to (publishes p.rows n) p.nodecount) e

  -- 7 and 8 of a right number of rows
  pub rows_rest : between 1 127 p.rowcount ≡ true → rows_refusal p.rows p.nodecount p.rowcount ≡ first_broken 7 (rows_right p ∷ all_publish p ∷ [])
  unfolding rows_right rows_refusal
  rows_rest b = rw (b, all_rows (leb-true p.rowcount 127 (and_r _ _ b))) (go (all_to (row_right p.nodecount p.rows) p.rowcount) (all_to (publishes p.rows p.rowcount) p.nodecount))
    where
      go : (x y : Bool) → if_else x (if_else y 0 8) 7 ≡ first_broken 7 (x ∷ y ∷ [])
      go true true = refl
      go true false = refl
      go false y = refl
