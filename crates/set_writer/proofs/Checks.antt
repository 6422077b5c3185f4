-- What the checks leave of a set's bytes.
use Prim.Native.Nat.{ℕ, zero, suc, ◌+◌, ◌*◌, ◌%◌, ◌≤◌, ◌<◌}
use mathlib.Core.Path.{◌≡◌, refl, ap, ◌∙◌}
use mathlib.Core.List.{List, ◌++◌}
use mathlib.Core.Logic.{⊎_elim}
use lib.ListN.{length, get_or, set, length-set, get_or-append}
use lib.Seq.{get_or-set_same, get_or-set_other, set-append_left}
use native.Mathlib.Omega.{arith}
use Rattle.base_lists.proofs.AllAny.{below_cases}
use Rattle.base_lists.proofs.Sums.{sum_ext}
use Rattle.base_bytes.specs.Bytes.{high_byte, low_byte}
use Rattle.base_bytes.specs.Check.{block_check, weight}
use Rattle.set_writer.specs.Write.{with_check}

-- a check depends on the first 510 bytes of its block
pub check_ext : (s t : List ℕ) (at : ℕ) → ((i : ℕ) → i < 510 → get_or s (at + i) 0 ≡ get_or t (at + i) 0) → block_check s at ≡ block_check t at
unfolding block_check
check_ext s t at h = ap (λ n. n % 65521) (sum_ext (weight s at) (weight t at) 510 (λ i p. ap (λ x. (i + 1) * x) (h i p)))

pub length_check : (l : List ℕ) (b : ℕ) → length (with_check l b) ≡ length l
unfolding with_check
length_check l b = simp length-set

pub check_other : (l : List ℕ) (b o : ℕ) → (o ≡ 512 * b + 510 → ⊥) → (o ≡ 512 * b + 511 → ⊥) → get_or (with_check l b) o 0 ≡ get_or l o 0
unfolding with_check
check_other l b o p q =
    let x = high_byte (block_check l (512 * b)) in
    let y = low_byte (block_check l (512 * b)) in
    get_or-set_other (set l (512 * b + 510) x) (512 * b + 511) o y 0 q ∙ get_or-set_other l (512 * b + 510) o x 0 p

pub check_high : (l : List ℕ) (b : ℕ) → 512 * b + 511 < length l → get_or (with_check l b) (512 * b + 510) 0 ≡ high_byte (block_check l (512 * b))
unfolding with_check
check_high l b p =
    let x = high_byte (block_check l (512 * b)) in
    get_or-set_other (set l (512 * b + 510) x) (512 * b + 511) (512 * b + 510) (low_byte (block_check l (512 * b))) 0 (λ e. omega arith) ∙ get_or-set_same l (512 * b + 510) x 0 (omega arith)

pub check_low : (l : List ℕ) (b : ℕ) → 512 * b + 511 < length l → get_or (with_check l b) (512 * b + 511) 0 ≡ low_byte (block_check l (512 * b))
unfolding with_check
check_low l b p = get_or-set_same (set l (512 * b + 510) (high_byte (block_check l (512 * b)))) (512 * b + 511) (low_byte (block_check l (512 * b))) 0 (simp length-set (omega arith))

-- a byte that is no part of a check
pub check_data : (l : List ℕ) (b o : ℕ) → o % 512 < 510 → get_or (with_check l b) o 0 ≡ get_or l o 0
check_data l b o p = check_other l b o (λ e. omega arith) (λ e. omega arith)

pub check_kept : (l : List ℕ) (b k : ℕ) → block_check (with_check l b) (512 * k) ≡ block_check l (512 * k)
check_kept l b k = check_ext _ _ (512 * k) (λ i p. check_data l b (512 * k + i) (omega arith))

-- the checks of the first n blocks
abbrev pub first_checks : List ℕ → ℕ → List ℕ
first_checks l zero = l
first_checks l (suc n) = with_check (first_checks l n) n

pub length_checks : (l : List ℕ) (n : ℕ) → length (first_checks l n) ≡ length l
length_checks l zero = refl
length_checks l (suc n) = length_check (first_checks l n) n ∙ length_checks l n

pub checks_data : (l : List ℕ) (n o : ℕ) → o % 512 < 510 → get_or (first_checks l n) o 0 ≡ get_or l o 0
checks_data l zero o p = refl
checks_data l (suc n) o p = check_data (first_checks l n) n o p ∙ checks_data l n o p

pub check_kept_all : (l : List ℕ) (n k : ℕ) → block_check (first_checks l n) (512 * k) ≡ block_check l (512 * k)
check_kept_all l zero k = refl
check_kept_all l (suc n) k = check_kept (first_checks l n) n k ∙ check_kept_all l n k

-- both bytes of a check
pub checks_stored : (l : List ℕ) (n b : ℕ) → b < n → 512 * n ≤ length l
    → (get_or (first_checks l n) (512 * b + 510) 0 ≡ high_byte (block_check l (512 * b))) × (get_or (first_checks l n) (512 * b + 511) 0 ≡ low_byte (block_check l (512 * b)))
checks_stored l zero b p q = absurd (omega arith)
checks_stored l (suc n) b p q = ⊎_elim (below (λ r. checks_stored l n b r (omega arith))) here (below_cases b n p)
  where
    bound : 512 * n + 511 < length (first_checks l n)
    bound = omega (arith, length_checks l n)

    below : (b < n → (get_or (first_checks l n) (512 * b + 510) 0 ≡ high_byte (block_check l (512 * b))) × (get_or (first_checks l n) (512 * b + 511) 0 ≡ low_byte (block_check l (512 * b))))
        → b < n → (get_or (first_checks l (suc n)) (512 * b + 510) 0 ≡ high_byte (block_check l (512 * b))) × (get_or (first_checks l (suc n)) (512 * b + 511) 0 ≡ low_byte (block_check l (512 * b)))
    below ih r =
        let w = ih r in
        (check_other (first_checks l n) n (512 * b + 510) (λ e. omega arith) (λ e. omega arith) ∙ w.0, check_other (first_checks l n) n (512 * b + 511) (λ e. omega arith) (λ e. omega arith) ∙ w.1)

    here : b ≡ n → (get_or (first_checks l (suc n)) (512 * b + 510) 0 ≡ high_byte (block_check l (512 * b))) × (get_or (first_checks l (suc n)) (512 * b + 511) 0 ≡ low_byte (block_check l (512 * b)))
    here e = rw e (check_high (first_checks l n) n bound ∙ ap high_byte (check_kept_all l n n), check_low (first_checks l n) n bound ∙ ap low_byte (check_kept_all l n n))

-- checks in the front of a longer list
pub check_append : (l r : List ℕ) (b : ℕ) → 512 * b + 512 ≤ length l → with_check (l ++ r) b ≡ with_check l b ++ r
unfolding with_check
check_append l r b p =
    let e : block_check (l ++ r) (512 * b) ≡ block_check l (512 * b) = check_ext (l ++ r) l (512 * b) (λ i q. get_or-append l r 0 (512 * b + i) (omega arith)) in
    let x = high_byte (block_check l (512 * b)) in
    rw (e, set-append_left l r (512 * b + 510) x (omega arith)) (set-append_left (set l (512 * b + 510) x) r (512 * b + 511) (low_byte (block_check l (512 * b))) (simp length-set (omega arith)))

pub checks_append : (l r : List ℕ) (n : ℕ) → 512 * n ≤ length l → first_checks (l ++ r) n ≡ first_checks l n ++ r
checks_append l r zero p = refl
checks_append l r (suc n) p = rw (checks_append l r n (omega arith)) (check_append (first_checks l n) r n (omega (arith, length_checks l n)))
