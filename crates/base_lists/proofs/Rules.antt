-- The number that a list of rules gives: exclusive and complete, and the same where the list is judged in two parts.
use Prim.Native.Nat.{ℕ, zero, suc, ◌+◌, ◌≤◌, ◌<◌}
use mathlib.Core.Path.{◌≡◌, refl, ap, ◌∙◌}
use mathlib.Core.List.{List, [], ◌∷◌, ◌++◌}
use mathlib.Core.Bool.{Bool, true, false}
use lib.ListN.{get_or, length}
use native.Mathlib.Omega.{arith}
use Rattle.base_lists.specs.FirstBroken.{first_broken}

-- rule i, counted from 0, is broken and none before it is
pub record BrokenAt (i : ℕ) (rules : List Bool) : Type 0 where
  pub broken : get_or rules i true ≡ false
  pub before : (j : ℕ) → j < i → get_or rules j true ≡ true

number_least : (k : ℕ) (rules : List Bool) → (first_broken k rules ≡ 0 → ⊥) → k ≤ first_broken k rules
number_least k [] n = absurd (n refl)
number_least k (true ∷ rules) n = omega (arith, number_least (suc k) rules n)
number_least k (false ∷ rules) n = omega arith

-- the number of rule i is given only where rule i is the first that is broken
pub number_only : (k i : ℕ) (rules : List Bool) → 0 < k → first_broken k rules ≡ k + i → BrokenAt i rules
number_only k i [] p e = absurd (omega arith)
number_only k zero (false ∷ rules) p e = record { broken = refl; before = λ j q. absurd (omega arith) }
number_only k (suc i) (false ∷ rules) p e = absurd (omega arith)
number_only k zero (true ∷ rules) p e = absurd (omega (arith, number_least (suc k) rules (λ z. omega arith)))
number_only k (suc i) (true ∷ rules) p e =
    let u : first_broken (suc k) rules ≡ suc k + i = omega arith in
    later (number_only (suc k) i rules (omega arith) u)
  where
    later : BrokenAt i rules → BrokenAt (suc i) (true ∷ rules)
    later h = record { broken = h.broken; before = earlier h }
      where
        earlier : BrokenAt i rules → (j : ℕ) → j < suc i → get_or (true ∷ rules) j true ≡ true
        earlier h zero q = refl
        earlier h (suc j) q = h.before j (omega arith)

-- and it is given there
pub number-given : (k i : ℕ) (rules : List Bool) → BrokenAt i rules → first_broken k rules ≡ k + i
number-given k i [] h = absurd (let z : ◌≡◌ {A = ℕ} 0 1 = cc h.broken in omega arith)
number-given k zero (false ∷ rules) h = omega arith
number-given k zero (true ∷ rules) h = absurd (let z : ◌≡◌ {A = ℕ} 0 1 = cc h.broken in omega arith)
number-given k (suc i) (false ∷ rules) h = absurd (let z : ◌≡◌ {A = ℕ} 0 1 = cc (h.before 0 (omega arith)) in omega arith)
number-given k (suc i) (true ∷ rules) h =
    let u : first_broken (suc k) rules ≡ suc k + i = number-given (suc k) i rules (record { broken = h.broken; before = λ j q. h.before (suc j) (omega arith) }) in
    omega arith

-- 0 is given only where each rule is kept
pub none_only : (k : ℕ) (rules : List Bool) → 0 < k → first_broken k rules ≡ 0 → (j : ℕ) → get_or rules j true ≡ true
none_only k [] p e j = refl
none_only k (false ∷ rules) p e j = absurd (omega arith)
none_only k (true ∷ rules) p e zero = refl
none_only k (true ∷ rules) p e (suc j) = none_only (suc k) rules (omega arith) e j

-- and it is given there
pub none-given : (k : ℕ) (rules : List Bool) → ((j : ℕ) → get_or rules j true ≡ true) → first_broken k rules ≡ 0
none-given k [] h = refl
none-given k (false ∷ rules) h = absurd (let z : ◌≡◌ {A = ℕ} 0 1 = cc (h 0) in omega arith)
none-given k (true ∷ rules) h = none-given (suc k) rules (λ j. h (suc j))

-- the front gives a number: the rest is not asked
pub front_number : (k : ℕ) (a b : List Bool) → (first_broken k a ≡ 0 → ⊥) → first_broken k (a ++ b) ≡ first_broken k a
front_number k [] b n = absurd (n refl)
front_number k (true ∷ a) b n = front_number (suc k) a b n
front_number k (false ∷ a) b n = refl

-- the front is kept: the rest gives the number
pub rest_number : (k : ℕ) (a b : List Bool) → 0 < k → first_broken k a ≡ 0 → first_broken k (a ++ b) ≡ first_broken (k + length a) b
rest_number k [] b p e = ap (λ m. first_broken m b) (omega arith)
rest_number k (true ∷ a) b p e = rest_number (suc k) a b (omega arith) e ∙ ap (λ m. first_broken m b) (omega arith)
rest_number k (false ∷ a) b p e = absurd (omega arith)
