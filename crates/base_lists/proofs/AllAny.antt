-- Laws of tests over the numbers below a bound.
use Prim.Native.Nat.{ℕ, zero, suc, ◌+◌, ◌-◌, ◌≤◌, ◌<◌}
use mathlib.Core.Path.{◌≡◌, refl, ap, sym, ◌∙◌}
use mathlib.Core.Bool.{Bool, true, false, not, ◌&&◌, ◌||◌, and-eq-true_iff, and-true, and_assoc}
use mathlib.Core.Logic.{◌⊎◌, inl, inr, ⊎_elim}
use native.Mathlib.Omega.{arith}
use native.Mathlib.Numerals.{add-one, unary_clauses}
use native.Mathlib.Decide.{dec_lt}
use borrow.Author.Tests.{leb-true, ltb-true, eqb-true}
use Rattle.base_lists.specs.Bounded.{all_to, any_to}

-- a number below n + 1 is below n or is n
pub below_cases : (i n : ℕ) → i < suc n → (i < n) ⊎ (i ≡ n)
below_cases i n p = go (dec_lt i n)
  where
    go : Dec (i < n) → (i < n) ⊎ (i ≡ n)
    go (yes q) = inl q
    go (no q) = inr (omega arith)

-- both halves of a test that holds
pub and_l : (a b : Bool) → (a && b) ≡ true → a ≡ true
and_l a b e = ((and-eq-true_iff a b).0 e).0

pub and_r : (a b : Bool) → (a && b) ≡ true → b ≡ true
and_r a b e = ((and-eq-true_iff a b).0 e).1

-- `search halves`: an order from a test that holds
pub ruleset halves = (and_l, and_r, leb-true, ltb-true, eqb-true)

pub all_none : (f : ℕ → Bool) → all_to f 0 ≡ true
unfolding all_to
all_none f = refl

pub all_next : (f : ℕ → Bool) (n : ℕ) → all_to f (n + 1) ≡ (all_to f n && f n)
unfolding all_to
all_next f n = rw add-one

pub all_at : (f : ℕ → Bool) (n : ℕ) → all_to f n ≡ true → (i : ℕ) → i < n → f i ≡ true
unfolding all_to
all_at f zero e i p = absurd (omega arith)
all_at f (suc n) e i p =
    let h : (all_to f n ≡ true) × (f n ≡ true) = (and-eq-true_iff (all_to f n) (f n)).0 e in
    ⊎_elim (λ q. all_at f n h.0 i q) (λ q. rw q h.1) (below_cases i n p)

pub all_intro : (f : ℕ → Bool) (n : ℕ) → ((i : ℕ) → i < n → f i ≡ true) → all_to f n ≡ true
unfolding all_to
all_intro f zero h = refl
all_intro f (suc n) h = rw (all_intro f n (λ i p. h i (omega arith)), h n (omega arith))

-- one that fails is enough
pub all_false : (f : ℕ → Bool) (n i : ℕ) → i < n → f i ≡ false → all_to f n ≡ false
all_false f n i p e = go (all_to f n) refl
  where
    go : (b : Bool) → all_to f n ≡ b → all_to f n ≡ false
    go true q = let w : f i ≡ true = all_at f n q i p in cc
    go false q = q

pub all_ext : (f g : ℕ → Bool) (n : ℕ) → ((i : ℕ) → i < n → f i ≡ g i) → all_to f n ≡ all_to g n
unfolding all_to
all_ext f g zero h = refl
all_ext f g (suc n) h = rw (all_ext f g n (λ i p. h i (omega arith)), h n (omega arith))

-- one more that holds
pub all_more : (f : ℕ → Bool) (n : ℕ) → all_to f n ≡ true → f n ≡ true → all_to f (n + 1) ≡ true
all_more f n p q = rw (all_next f n, p, q)

-- a run is its front and its rest
pub all_cut : (f : ℕ → Bool) (a k : ℕ) → all_to f (a + k) ≡ (all_to f a && all_to (λ i. f (a + i)) k)
unfolding all_to
all_cut f a zero = simp (unary_clauses, and-true)
all_cut f a (suc k) =
    let e : a + suc k ≡ suc (a + k) = omega arith in
    rw (e, all_cut f a k) (and_assoc (all_to f a) (all_to (λ i. f (a + i)) k) (f (a + k)))

all_rest : (f : ℕ → Bool) (m k : ℕ) → ((i : ℕ) → m ≤ i → i < m + k → f i ≡ true) → all_to f (m + k) ≡ all_to f m
unfolding all_to
all_rest f m zero h = simp unary_clauses
all_rest f m (suc k) h =
    let e : m + suc k ≡ suc (m + k) = omega arith in
    rw (e, all_rest f m k (λ i p q. h i p (omega arith)), h (m + k) (omega arith) (omega arith), and-true)

-- where the test holds from m on
pub all_upto : (f : ℕ → Bool) (m n : ℕ) → m ≤ n → ((i : ℕ) → m ≤ i → i < n → f i ≡ true) → all_to f m ≡ all_to f n
all_upto f m n l h =
    let e : m + (n - m) ≡ n = omega arith in
    sym (all_rest f m (n - m) (λ i p q. h i p (omega arith))) ∙ ap (all_to f) e

pub any_none : (f : ℕ → Bool) → any_to f 0 ≡ false
unfolding any_to
any_none f = refl

pub any_next : (f : ℕ → Bool) (n : ℕ) → any_to f (n + 1) ≡ (any_to f n || f n)
unfolding any_to
any_next f n = rw add-one

pub any_ext : (f g : ℕ → Bool) (n : ℕ) → ((i : ℕ) → i < n → f i ≡ g i) → any_to f n ≡ any_to g n
unfolding any_to
any_ext f g zero h = refl
any_ext f g (suc n) h = rw (any_ext f g n (λ i p. h i (omega arith)), h n (omega arith))

-- where it holds of none it fails of each
pub any_at : (f : ℕ → Bool) (n : ℕ) → any_to f n ≡ false → (i : ℕ) → i < n → f i ≡ false
unfolding any_to
any_at f zero e i p = absurd (omega arith)
any_at f (suc n) e i p = go (any_to f n) refl (f n) refl (any_at f n)
  where
    go : (a : Bool) → any_to f n ≡ a → (b : Bool) → f n ≡ b → (any_to f n ≡ false → (j : ℕ) → j < n → f j ≡ false) → f i ≡ false
    go false q false r rest = ⊎_elim (λ l. rest q i l) (λ l. rw l r) (below_cases i n p)
    go false q true r rest = let z : ◌≡◌ {A = ℕ} 0 1 = cc (rw (q, r) at e) in absurd (omega arith)
    go true q b r rest = let z : ◌≡◌ {A = ℕ} 0 1 = cc (rw q at e) in absurd (omega arith)

-- a test fails of every number where it holds of none
pub all_not : (f : ℕ → Bool) (n : ℕ) → all_to (λ i. not (f i)) n ≡ not (any_to f n)
unfolding all_to any_to
all_not f zero = refl
all_not f (suc n) = rw (all_not f n) (go (any_to f n) (f n))
  where
    go : (a b : Bool) → (not a && not b) ≡ not (a || b)
    go true b = refl
    go false b = refl
