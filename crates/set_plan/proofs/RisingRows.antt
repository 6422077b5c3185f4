-- In an accepted plan the search from the ReqId's place down finds the row that the search from the front finds.
use Rattle.std.specs.Prelude.{Some, None}
use Prim.Native.Nat.{ℕ, zero, suc, min, ◌+◌, ◌-◌, ◌≤◌, ◌<◌}
use mathlib.Core.Path.{◌≡◌, refl, ◌∙◌}
use mathlib.Core.List.{List}
use mathlib.Core.Bool.{Bool, true, false}
use lib.Dec.{ltb}
use native.Mathlib.Omega.{arith}
use native.Mathlib.Decide.{ℕ_discrete}
use borrow.Author.Tests.{eqb-true, ltb-true, ltb-false}
use Rattle.base_lists.specs.Bounded.{first_to, all_to}
use Rattle.base_lists.proofs.AllAny.{and_r}
use Rattle.base_lists.proofs.First.{first_holds, first_past}
use Rattle.set_plan.specs.declared.Row.{Row}
use Rattle.set_plan.specs.declared.Plan.{Plan}
use Rattle.set_plan.specs.Limits.{max_rows}
use Rattle.set_plan.specs.Record.{row_at, rows_used}
use Rattle.set_plan.specs.Find.{has_reqid, row_among, find_row, last_among, rising_row}
use Rattle.set_plan.specs.Rules.{between, row_right, rows_right, plan_refusal}
use Rattle.set_plan.proofs.Accepted.{accepted, rows_few}
use Rattle.set_plan.proofs.Lookups.{has_not}
use Rattle.set_plan.proofs.Rows.{rises, rises_over}

module _ (rows : List Row) (reqid : ℕ) where
  last_none : (n : ℕ) → ((i : ℕ) → i < n → has_reqid rows reqid i ≡ false) → last_among rows reqid n ≡ None
  unfolding last_among
  last_none zero h = refl
  last_none (suc n) h = rw (h n (omega arith)) (last_none n (λ i l. h i (omega arith)))

  last_found : (n j : ℕ) → j < n → has_reqid rows reqid j ≡ true → ((i : ℕ) → j < i → i < n → has_reqid rows reqid i ≡ false) → last_among rows reqid n ≡ Some (row_at rows j)
  unfolding last_among
  last_found zero j l e h = absurd (omega arith)
  last_found (suc n) j l e h = at (ℕ_discrete j n) (λ q. last_found n j (omega (arith, l, q)) e (λ i a b. h i a (omega arith)))
    where
      at : Dec (j ≡ n) → ((j ≡ n → ⊥) → last_among rows reqid n ≡ Some (row_at rows j)) → last_among rows reqid (suc n) ≡ Some (row_at rows j)
      at (yes q) below = rw (← q, e)
      at (no q) below = rw (h n (omega (arith, l, q)) (omega arith)) (below q)

pub rising_found : (p : Plan) → plan_refusal p ≡ 0 → (reqid : ℕ) → rising_row p reqid ≡ find_row p reqid
unfolding rising_row find_row row_among rows_right has_reqid
rising_found p ok reqid = go (ltb j n) refl
  where
    n : ℕ
    n = rows_used p.rowcount

    j : ℕ
    j = first_to (has_reqid p.rows reqid) n

    few : p.rowcount ≤ max_rows
    few = rows_few p (accepted p ok).rows

    each : all_to (row_right p.nodecount p.rows) p.rowcount ≡ true
    each = and_r (between 1 max_rows p.rowcount) (all_to (row_right p.nodecount p.rows) p.rowcount) (accepted p ok).rows

    -- a row behind the one that has the ReqId has a higher one
    behind : (row_at p.rows j).reqid ≡ reqid → (i : ℕ) → j < i → i < p.rowcount → has_reqid p.rows reqid i ≡ false
    behind e i a b =
        let z : j + suc (i - suc j) ≡ i = omega arith in
        let u = rises_over p.nodecount p.rows p.rowcount each j (i - suc j) (omega arith) in
        has_not p.rows reqid i (λ q. omega (arith, rw z at u, e, q))

    go : (b : Bool) → ltb (first_to (has_reqid p.rows reqid) (rows_used p.rowcount)) (rows_used p.rowcount) ≡ b → rising_row p reqid ≡ find_row p reqid
    go true q =
        let l : j < n = ltb-true _ _ q in
        let h = first_holds (has_reqid p.rows reqid) n l in
        let e : (row_at p.rows j).reqid ≡ reqid = eqb-true _ _ h in
        let r = (rises p.nodecount p.rows p.rowcount each j (omega (arith, l, few))).0 in
        last_found p.rows reqid (min reqid n) j (omega (arith, l, r, e)) h (λ i a b. behind e i a (omega (arith, b, few))) ∙ rw q
    go false q =
        let l : n ≤ j = ltb-false _ _ q in
        last_none p.rows reqid (min reqid n) (λ i b. first_past (has_reqid p.rows reqid) n l i (omega (arith, b))) ∙ rw q
