-- Rows that rise strictly within 1 to 127: the ReqId before the next one, and how many there can be.
use Prim.Native.Nat.{ℕ, zero, suc, ◌+◌, ◌-◌, ◌≤◌, ◌<◌}
use mathlib.Core.Path.{◌≡◌}
use mathlib.Core.List.{List}
use mathlib.Core.Bool.{true}
use native.Mathlib.Omega.{arith}
use borrow.Author.Tests.{ne_eqb}
use Rattle.base_lists.specs.Bounded.{all_to}
use Rattle.base_lists.proofs.AllAny.{all_at, halves}
use Rattle.set_plan.specs.declared.Row.{Row}
use Rattle.set_plan.specs.Limits.{max_rows, reqids}
use Rattle.set_plan.specs.Record.{row_at}
use Rattle.set_plan.specs.Rules.{reqid_before, row_after, row_right}

-- the ReqId before the next row is that of this one
pub reqid_next : (rows : List Row) (j : ℕ) → (row_at rows j).reqid ≡ reqid_before rows (j + 1)
unfolding reqid_before
reqid_next rows j =
    let e : (j + 1) - 1 ≡ j = omega arith in
    rw (ne_eqb (j + 1) 0 (λ q. omega arith), e)

bounds : (n b : ℕ) (r : Row) → row_after n b r ≡ true → (b < r.reqid) × (r.reqid < reqids)
unfolding row_after
bounds n b r e = (search halves, search halves)

-- the ReqId of row j is above j
pub rises : (n : ℕ) (rows : List Row) (c : ℕ) → all_to (row_right n rows) c ≡ true → (j : ℕ) → j < c → (j < (row_at rows j).reqid) × ((row_at rows j).reqid < reqids)
unfolding row_right reqid_before
rises n rows c e zero h = bounds n 0 (row_at rows 0) (all_at (row_right n rows) c e 0 h)
rises n rows c e (suc j) h =
    let u = rises n rows c e j (omega arith) in
    let z : suc j - 1 ≡ j = omega arith in
    let q : row_after n (row_at rows j).reqid (row_at rows (suc j)) ≡ true = rw (ne_eqb (suc j) 0 (λ w. omega arith), z) at (all_at (row_right n rows) c e (suc j) h) in
    let v = bounds n (row_at rows j).reqid (row_at rows (suc j)) q in
    omega arith

-- and above that of each row before it
pub rises_over : (n : ℕ) (rows : List Row) (c : ℕ) → all_to (row_right n rows) c ≡ true → (i k : ℕ) → i + suc k < c → (row_at rows i).reqid < (row_at rows (i + suc k)).reqid
unfolding row_right reqid_before
rises_over n rows c e i k h = go k h
  where
    next : (j : ℕ) → suc j < c → (row_at rows j).reqid < (row_at rows (suc j)).reqid
    next j l =
        let z : suc j - 1 ≡ j = omega arith in
        (bounds n (row_at rows j).reqid (row_at rows (suc j)) (rw (ne_eqb (suc j) 0 (λ w. omega arith), z) at (all_at (row_right n rows) c e (suc j) l))).0

    go : (k : ℕ) → i + suc k < c → (row_at rows i).reqid < (row_at rows (i + suc k)).reqid
    go zero l =
        let z : i + 1 ≡ suc i = omega arith in
        rw z (next i (omega arith))
    go (suc k) l =
        let z : i + suc (suc k) ≡ suc (i + suc k) = omega arith in
        let u = go k (omega arith) in
        let v = next (i + suc k) (omega arith) in
        rw z (omega (arith, u, v))

-- so a record's bound of 127 rows refuses nothing that its rows' own rule would take
pub at_most_127 : (n : ℕ) (rows : List Row) (c : ℕ) → all_to (row_right n rows) c ≡ true → c ≤ max_rows
at_most_127 n rows zero e = omega arith
at_most_127 n rows (suc c) e = omega (arith, rises n rows (suc c) e c (omega arith))
