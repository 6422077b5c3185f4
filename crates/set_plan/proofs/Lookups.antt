-- Laws of a ReqId's lookup.
use Rattle.std.specs.Prelude.{Some, None}
use Prim.Native.Nat.{ℕ, ◌<◌}
use mathlib.Core.Path.{◌≡◌, refl, ap, sym, ◌∙◌}
use mathlib.Core.List.{List}
use mathlib.Core.Bool.{Bool, true, false, ◌&&◌, ◌||◌, or-false}
use lib.Dec.{leb, ltb, eqb}
use native.Mathlib.Omega.{arith}
use borrow.Author.Tests.{eq-eqb, ne_eqb, lt-ltb, le-ltb, ltb-true, eqb-true}
use Rattle.base_lists.specs.Bounded.{all_to, any_to, first_to}
use Rattle.base_lists.proofs.AllAny.{and_l, and_r, all_at}
use Rattle.base_lists.proofs.First.{first_none, first_found, first_holds}
use Rattle.set_plan.specs.declared.Row.{Row}
use Rattle.set_plan.specs.declared.Plan.{Plan}
use Rattle.set_plan.specs.Limits.{max_rows, reqids}
use Rattle.set_plan.specs.Record.{row_at, rows_used}
use Rattle.set_plan.specs.Find.{has_reqid, row_among, find_row}
use Rattle.set_plan.specs.Answering.{master_number}
use Rattle.set_plan.specs.Rules.{between, reqid_before, row_after, row_right, rows_right, plan_refusal}
use Rattle.set_plan.proofs.Accepted.{accepted, rows_few}

module _ (rows : List Row) (reqid : ℕ) where
  -- a row that has the ReqId, and one that has not
  pub has : (j : ℕ) → (row_at rows j).reqid ≡ reqid → has_reqid rows reqid j ≡ true
  unfolding has_reqid
  has j e = eq-eqb _ _ e

  pub has_not : (j : ℕ) → ((row_at rows j).reqid ≡ reqid → ⊥) → has_reqid rows reqid j ≡ false
  unfolding has_reqid
  has_not j e = ne_eqb _ _ e

  pub among_none : (n : ℕ) → any_to (has_reqid rows reqid) n ≡ false → row_among rows reqid n ≡ None
  unfolding row_among
  among_none n e = rw (first_none (has_reqid rows reqid) n e, le-ltb n n (omega arith))

  pub among_found : (n j : ℕ) → j < n → any_to (has_reqid rows reqid) j ≡ false → has_reqid rows reqid j ≡ true → row_among rows reqid n ≡ Some (row_at rows j)
  unfolding row_among
  among_found n j l e h = rw (first_found (has_reqid rows reqid) n j l e h, lt-ltb j n l)

-- a row that was found is one of the rows in use, and has the ReqId
pub record FoundRow (p : Plan) (reqid : ℕ) (r : Row) : Type 0 where
  pub place : ℕ
  pub used : place < rows_used p.rowcount
  pub row : row_at p.rows place ≡ r
  pub same : r.reqid ≡ reqid

pub found_row : (p : Plan) (reqid : ℕ) (r : Row) → find_row p reqid ≡ Some r → FoundRow p reqid r
unfolding find_row row_among has_reqid
found_row p reqid r e = go (ltb j n) refl
  where
    n : ℕ
    n = rows_used p.rowcount

    j : ℕ
    j = first_to (has_reqid p.rows reqid) (rows_used p.rowcount)

    go : (b : Bool) → ltb (first_to (has_reqid p.rows reqid) (rows_used p.rowcount)) (rows_used p.rowcount) ≡ b → FoundRow p reqid r
    go true q =
        let l : first_to (has_reqid p.rows reqid) (rows_used p.rowcount) < rows_used p.rowcount = ltb-true _ _ q in
        let w : Some (row_at p.rows j) ≡ Some r = rw q at e in
        let z : row_at p.rows j ≡ r = cc in
        record { place = j; used = l; row = z; same = sym (ap (λ (x : Row). x.reqid) z) ∙ eqb-true _ _ (first_holds (has_reqid p.rows reqid) n l) }
    go false q = let w : None ≡ Some r = rw q at e in absurd (let z : ◌≡◌ {A = ℕ} 0 1 = cc in omega arith)

-- a right row that is not the master's names a node
row_publisher : (n b : ℕ) (r : Row) → row_after n b r ≡ true → eqb r.publisher master_number ≡ false → r.publisher < n
unfolding row_after
row_publisher n b r e z =
    let x = ltb b r.reqid && ltb r.reqid reqids in
    let y = ltb r.publisher n || eqb r.publisher master_number in
    let h : (ltb r.publisher n || eqb r.publisher master_number) ≡ true = and_r x y (and_l (x && y) (leb r.kind 3) e) in
    let q : ltb r.publisher n ≡ true = sym (or-false (ltb r.publisher n)) ∙ ap (λ w. ltb r.publisher n || w) (sym z) ∙ h in
    ltb-true _ _ q

-- in an accepted plan each row that was found but the master's names a node
pub found_publisher : (p : Plan) (reqid : ℕ) (r : Row) → plan_refusal p ≡ 0 → find_row p reqid ≡ Some r → eqb r.publisher master_number ≡ false → r.publisher < p.nodecount
unfolding rows_right row_right
found_publisher p reqid r ok e n =
    let f = found_row p reqid r e in
    let m = rows_few p (accepted p ok).rows in
    let each = and_r (between 1 max_rows p.rowcount) (all_to (row_right p.nodecount p.rows) p.rowcount) (accepted p ok).rows in
    let right : row_after p.nodecount (reqid_before p.rows f.place) (row_at p.rows f.place) ≡ true
    = all_at (row_right p.nodecount p.rows) p.rowcount each f.place (omega (arith, f.used, m)) in
    row_publisher p.nodecount (reqid_before p.rows f.place) r (rw f.row at right) n
