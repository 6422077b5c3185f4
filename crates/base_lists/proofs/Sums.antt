-- Laws of sums over the numbers below a bound.
use Prim.Native.Nat.{ℕ, zero, suc, ◌+◌, ◌-◌, ◌≤◌, ◌<◌}
use mathlib.Core.Path.{◌≡◌, refl, ap, sym, ◌∙◌}
use native.Mathlib.Omega.{arith}
use native.Mathlib.Numerals.{add-one, unary_clauses}
use Rattle.base_lists.specs.Bounded.{sum_to}

pub sum_none : (f : ℕ → ℕ) → sum_to f 0 ≡ 0
unfolding sum_to
sum_none f = refl

pub sum_next : (f : ℕ → ℕ) (n : ℕ) → sum_to f (n + 1) ≡ sum_to f n + f n
unfolding sum_to
sum_next f n = rw add-one

pub sum_ext : (f g : ℕ → ℕ) (n : ℕ) → ((i : ℕ) → i < n → f i ≡ g i) → sum_to f n ≡ sum_to g n
unfolding sum_to
sum_ext f g zero h = refl
sum_ext f g (suc n) h = rw (sum_ext f g n (λ i p. h i (omega arith)), h n (omega arith))

sum_rest : (f : ℕ → ℕ) (m k : ℕ) → ((i : ℕ) → m ≤ i → i < m + k → f i ≡ 0) → sum_to f (m + k) ≡ sum_to f m
unfolding sum_to
sum_rest f m zero h = simp unary_clauses
sum_rest f m (suc k) h =
    let e : m + suc k ≡ suc (m + k) = omega arith in
    rw (e, sum_rest f m k (λ i p q. h i p (omega arith)), h (m + k) (omega arith) (omega arith)) (omega arith)

-- where nothing is added from m on
pub sum_upto : (f : ℕ → ℕ) (m n : ℕ) → m ≤ n → ((i : ℕ) → m ≤ i → i < n → f i ≡ 0) → sum_to f m ≡ sum_to f n
sum_upto f m n l h =
    let e : m + (n - m) ≡ n = omega arith in
    sym (sum_rest f m (n - m) (λ i p q. h i p (omega arith))) ∙ ap (sum_to f) e
