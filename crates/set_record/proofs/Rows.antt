-- The rows: looked up, and judged one after the other.
use Rattle.std.specs.Prelude.{Some, None}
use Prim.Native.Nat.{ℕ, suc, ◌+◌, ◌<◌}
use mathlib.Core.Path.{◌≡◌, ap, sym, ◌∙◌}
use mathlib.Core.Bool.{Bool, true, false}
use mathlib.Core.List.{List}
use Rattle.base_lists.specs.Bounded.{all_to, any_to}
use Rattle.set_plan.specs.declared.Row.{Row}
use Rattle.set_plan.specs.Record.{row_at}
use Rattle.set_plan.specs.Find.{has_reqid, row_among, last_among}
use Rattle.set_plan.specs.Rules.{reqid_before, row_after, row_right, publishes}
use Rattle.set_plan.proofs.Lookups.{has, has_not, among_found}
use Rattle.set_plan.proofs.Rows.{reqid_next}
use Rattle.set_record.specs.RowsRefusal.{rows_refusal}

module _ (rows : List Row) (j : ℕ) (row : Row) (is : row ≡ row_at rows j) where
  pub its_publisher : (row_at rows j).publisher ≡ row.publisher
  its_publisher = ap (λ (x : Row). x.publisher) (sym is)

  pub next_before : row.reqid ≡ reqid_before rows (j + 1)
  next_before = ap (λ (x : Row). x.reqid) is ∙ reqid_next rows j

  pub judged : (n b : ℕ) (x : Bool) → b ≡ reqid_before rows j → row_after n b row ≡ x → row_right n rows j ≡ x
  unfolding row_right
  judged n b x e w = rw (← e, ← is, w)

  here : (reqid : ℕ) → row.reqid ≡ reqid → has_reqid rows reqid j ≡ true
  here reqid q = has rows reqid j (ap (λ (x : Row). x.reqid) (sym is) ∙ q)

  pub other : (reqid : ℕ) → (row.reqid ≡ reqid → ⊥) → has_reqid rows reqid j ≡ false
  other reqid q = has_not rows reqid j (λ w. q (ap (λ (x : Row). x.reqid) is ∙ w))

  pub found : (reqid count : ℕ) → j < count → any_to (has_reqid rows reqid) j ≡ false → row.reqid ≡ reqid → Some row ≡ row_among rows reqid count
  found reqid count l n q = ap (λ (x : Row). Some x) is ∙ sym (among_found rows reqid count j l n (here reqid q))

  -- and from the back
  pub last_here : (reqid k : ℕ) → k ≡ suc j → row.reqid ≡ reqid → Some row ≡ last_among rows reqid k
  unfolding last_among
  last_here reqid k e q = rw (e, here reqid q) (ap (λ (x : Row). Some x) is)

  pub last_below : (reqid k : ℕ) → k ≡ suc j → (row.reqid ≡ reqid → ⊥) → last_among rows reqid j ≡ last_among rows reqid k
  unfolding last_among
  last_below reqid k e q = rw (e, other reqid q)

pub last_none : (rows : List Row) (reqid k : ℕ) → k ≡ 0 → None ≡ last_among rows reqid k
unfolding last_among
last_none rows reqid k e = rw e

module _ (rows : List Row) (n count : ℕ) where
  pub refuses_7 : all_to (row_right n rows) count ≡ false → 7 ≡ rows_refusal rows n count
  unfolding rows_refusal
  refuses_7 e = rw e

  pub refuses_8 : all_to (row_right n rows) count ≡ true → all_to (publishes rows count) n ≡ false → 8 ≡ rows_refusal rows n count
  unfolding rows_refusal
  refuses_8 e f = rw (e, f)

  pub keeps : all_to (row_right n rows) count ≡ true → all_to (publishes rows count) n ≡ true → 0 ≡ rows_refusal rows n count
  unfolding rows_refusal
  keeps e f = rw (e, f)
