-- Laws of the two totals of a block's check: the total of totals is the sum of products, and both fit 32 bits.
use Prim.Native.Nat.{ℕ, zero, suc, ◌+◌, ◌-◌, ◌*◌, ◌≤◌, ◌<◌}
use mathlib.Core.Path.{◌≡◌, sym, ◌∙◌}
use mathlib.Core.List.{List}
use native.Mathlib.Nat.{mul-add, add-mul, one-mul, mul-le-mul}
use native.Mathlib.Numerals.{add-one}
use native.Mathlib.Omega.{arith}
use Rattle.base_lists.specs.Bounded.{sum_to}
use Rattle.base_lists.proofs.Sums.{sum_next, sum_none, sum_upto}
use Rattle.base_bytes.specs.Bytes.{byte}
use Rattle.base_bytes.specs.Check.{weight, running_total, total_of_totals}

-- of the i + 1 times that byte b counts, its line adds one to the total of totals; i are still to come
line : (i sum t ts b : ℕ) → sum + (i + 1) * b + (i + 1) * t + ts ≡ sum + i * (t + b) + (ts + (t + b))
line i sum t ts b = omega (arith, mul-add (i + 1) t b, add-mul i 1 (t + b), one-mul (t + b))

module _ (s : List ℕ) (start : ℕ) where
  pub total_next : (n : ℕ) → running_total s start (n + 1) ≡ running_total s start n + byte s (start + (509 - n))
  total_next n = sum_next _ n

  pub totals_next : (n : ℕ) → total_of_totals s start (n + 1) ≡ total_of_totals s start n + running_total s start (n + 1)
  totals_next n = sum_next _ n

  -- after n bytes the products of the bytes below are still to come, and the running total once for each of these bytes
  so_far : (n : ℕ) → n ≤ 510 → sum_to (weight s start) (510 - n) + (510 - n) * running_total s start n + total_of_totals s start n ≡ sum_to (weight s start) 510
  so_far zero h = rw (sum_none, sum_none) (omega arith)
  so_far (suc n) h =
      let e : 510 - suc n ≡ 509 - n = omega arith in
      let d : 510 - n ≡ 509 - n + 1 = omega arith in
      rw (e, ← add-one n, totals_next n, total_next n) (sym (line (509 - n) _ _ _ _) ∙ rw (d, sum_next (weight s start) (509 - n)) at (so_far n (omega arith)))

  -- the total of totals is the sum of products
  pub check_products : total_of_totals s start 510 ≡ sum_to (weight s start) 510
  check_products = omega (arith, so_far 510 (omega arith), sum_none (weight s start))

  total_zero : (n : ℕ) → ((k : ℕ) → k < n → byte s (start + (509 - k)) ≡ 0) → running_total s start n ≡ 0
  total_zero n h = sym (sum_upto _ 0 n (omega arith) (λ k p q. h k q)) ∙ sum_none _

  -- bytes of 0 leave both totals 0
  pub check_zero : (n : ℕ) → ((k : ℕ) → k < n → byte s (start + (509 - k)) ≡ 0) → (running_total s start n ≡ 0) × (total_of_totals s start n ≡ 0)
  check_zero n h = (total_zero n h, sym (sum_upto _ 0 n (omega arith) (λ k p q. total_zero (k + 1) (λ j r. h j (omega arith)))) ∙ sum_none _)

  module _ (small : (o : ℕ) → byte s o < 256) where
    total_most : (n : ℕ) → running_total s start n ≤ 255 * n
    total_most zero = rw sum_none (omega arith)
    total_most (suc n) = rw (← add-one n) (omega (arith, total_next n, total_most n, small (start + (509 - n))))

    totals_most : (n : ℕ) → 2 * total_of_totals s start n ≤ 255 * (n * (n + 1))
    totals_most zero = rw sum_none (omega arith)
    totals_most (suc n) = rw (← add-one n) (omega (arith, totals_next n, totals_most n, total_most (n + 1), mul-add (n + 1) n 2))

    -- the totals are at most those of bytes of 255
    pub check_most : (n : ℕ) → n ≤ 510 → (running_total s start n ≤ 130050) × (total_of_totals s start n ≤ 33227775)
    check_most n h = omega (arith, total_most n, totals_most n, mul-le-mul {n₁ = n} {m₁ = n + 1} {n₂ = 510} {m₂ = 511} h (omega arith))

-- byte i - 1 gives both totals of its line, which fit 32 bits
pub record Line (s : List ℕ) (start i : ℕ) : Type 0 where
  pub total : running_total s start (510 - (i - 1)) ≡ running_total s start (510 - i) + byte s (start + (i - 1))
  pub totals : total_of_totals s start (510 - (i - 1)) ≡ total_of_totals s start (510 - i) + running_total s start (510 - (i - 1))
  pub most : (running_total s start (510 - (i - 1)) ≤ 130050) × (total_of_totals s start (510 - (i - 1)) ≤ 33227775)

pub line_of : (s : List ℕ) (start : ℕ) → ((o : ℕ) → byte s o < 256) → (i : ℕ) → 0 < i → i ≤ 510 → Line s start i
line_of s start small i p q =
    let e : 510 - (i - 1) ≡ 510 - i + 1 = omega arith in
    let d : 509 - (510 - i) ≡ i - 1 = omega arith in
    let next = rw d at (total_next s start (510 - i)) in
    record {
      total = rw e next;
      totals = rw e (totals_next s start (510 - i));
      most = rw e (check_most s start small (510 - i + 1) (omega arith));
    }
