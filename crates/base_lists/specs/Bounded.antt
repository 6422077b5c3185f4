-- A choice by a test, and sums, tests and lists over the numbers below a bound.
use Rattle.std.specs.Prelude.{ℕ, zero, suc, ◌+◌, List, [], ◌∷◌, Bool, true, false, ◌&&◌, ◌||◌}

-- the first where the test holds, else the second
abbrev pub if_else {ℓ} : {A : Type ℓ} → Bool → A → A → A
if_else true a b = a
if_else false a b = b

-- f 0 + .. + f (n - 1)
unfoldable pub sum_to : (ℕ → ℕ) → ℕ → ℕ
sum_to f zero = 0
sum_to f (suc n) = sum_to f n + f n

-- whether a test holds of every number below n
unfoldable pub all_to : (ℕ → Bool) → ℕ → Bool
all_to f zero = true
all_to f (suc n) = all_to f n && f n

-- whether a test holds of some number below n
unfoldable pub any_to : (ℕ → Bool) → ℕ → Bool
any_to f zero = false
any_to f (suc n) = any_to f n || f n

-- the list f 0, .., f (n - 1)
unfoldable pub tab {ℓ} : {A : Type ℓ} → ℕ → (ℕ → A) → List A
tab zero f = []
tab (suc n) f = f 0 ∷ tab n (λ k. f (suc k))

-- the lowest number below n of which a test holds, n where it holds of none
unfoldable pub first_to : (ℕ → Bool) → ℕ → ℕ
first_to f zero = 0
first_to f (suc n) = if_else (any_to f n) (first_to f n) (if_else (f n) n (suc n))
