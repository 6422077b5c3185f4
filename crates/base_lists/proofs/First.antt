-- Laws of the lowest number of which a test holds.
use Prim.Native.Nat.{ℕ, zero, suc, ◌+◌, ◌≤◌, ◌<◌}
use mathlib.Core.Path.{◌≡◌, refl, ap, sym, ◌∙◌}
use mathlib.Core.Bool.{Bool, true, false}
use mathlib.Core.Logic.{⊎_elim}
use native.Mathlib.Omega.{arith}
use Rattle.base_lists.specs.Bounded.{any_to, first_to}
use Rattle.base_lists.proofs.AllAny.{below_cases, any_next, any_at}

module _ (f : ℕ → Bool) where
  -- none so far, none at n
  pub none_next : (n : ℕ) → any_to f n ≡ false → f n ≡ false → any_to f (n + 1) ≡ false
  none_next n e h = any_next f n ∙ rw (e, h)

  pub first_none : (n : ℕ) → any_to f n ≡ false → first_to f n ≡ n
  unfolding first_to any_to
  first_none zero e = refl
  first_none (suc n) e = go (any_to f n) refl (f n) refl
    where
      go : (a : Bool) → any_to f n ≡ a → (b : Bool) → f n ≡ b → first_to f (suc n) ≡ suc n
      go false p false q = rw (p, q)
      go false p true q = let z : ◌≡◌ {A = ℕ} 0 1 = cc (rw (p, q) at e) in absurd (omega arith)
      go true p b q = let z : ◌≡◌ {A = ℕ} 0 1 = cc (rw p at e) in absurd (omega arith)

  any_kept : (m n : ℕ) → n ≤ m → any_to f n ≡ true → (any_to f m ≡ true) × (first_to f m ≡ first_to f n)
  unfolding first_to any_to
  any_kept zero n l e = let z : n ≡ 0 = omega arith in (rw z at e, ap (first_to f) (sym z))
  any_kept (suc m) n l e = ⊎_elim (λ q. later (any_kept m n (omega arith) e)) (λ q. (rw q at e, ap (first_to f) (sym q))) (below_cases n (suc m) (omega arith))
    where
      later : (any_to f m ≡ true) × (first_to f m ≡ first_to f n) → (any_to f (suc m) ≡ true) × (first_to f (suc m) ≡ first_to f n)
      later h = (rw h.0, rw h.0 h.1)

  -- none below n, but n itself
  pub first_found : (m n : ℕ) → n < m → any_to f n ≡ false → f n ≡ true → first_to f m ≡ n
  unfolding first_to any_to
  first_found m n l e h =
      let a : any_to f (suc n) ≡ true = rw (e, h) in
      let b : first_to f (suc n) ≡ n = rw (e, h) in
      (any_kept m (suc n) (omega arith) a).1 ∙ b

  -- where the test holds of some number, the first is below the bound
  any_below : (n : ℕ) → any_to f n ≡ true → first_to f n < n
  unfolding first_to any_to
  any_below zero e = let z : ◌≡◌ {A = ℕ} 0 1 = cc in absurd (omega arith)
  any_below (suc n) e = go (any_to f n) refl (f n) refl (any_below n)
    where
      go : (a : Bool) → any_to f n ≡ a → (b : Bool) → f n ≡ b → (any_to f n ≡ true → first_to f n < n) → first_to f (suc n) < suc n
      go true p b q ih = rw p (omega (arith, ih p))
      go false p true q ih = rw (p, q) (omega arith)
      go false p false q ih = let z : ◌≡◌ {A = ℕ} 0 1 = cc (rw (p, q) at e) in absurd (omega arith)

  -- what is below the bound is one of which the test holds
  pub first_holds : (n : ℕ) → first_to f n < n → f (first_to f n) ≡ true
  unfolding first_to any_to
  first_holds zero l = absurd (omega arith)
  first_holds (suc n) l = go (any_to f n) refl (f n) refl (first_holds n)
    where
      go : (a : Bool) → any_to f n ≡ a → (b : Bool) → f n ≡ b → (first_to f n < n → f (first_to f n) ≡ true) → f (first_to f (suc n)) ≡ true
      go true p b q ih = rw p (ih (any_below n p))
      go false p true q ih = rw (p, q) q
      go false p false q ih = let z : suc n < suc n = rw (p, q) at l in absurd (omega arith)

  -- where none below the bound is the first, the test fails of each
  pub first_past : (n : ℕ) → n ≤ first_to f n → (i : ℕ) → i < n → f i ≡ false
  first_past n l = go (any_to f n) refl
    where
      go : (a : Bool) → any_to f n ≡ a → (i : ℕ) → i < n → f i ≡ false
      go true e = absurd (omega (arith, any_below n e))
      go false e = any_at f n e

-- tests that agree below a bound have one first number there
module _ (f g : ℕ → Bool) where
  any_same : (n : ℕ) → ((i : ℕ) → i < n → f i ≡ g i) → any_to f n ≡ any_to g n
  unfolding any_to
  any_same zero h = refl
  any_same (suc n) h = rw (any_same n (λ i l. h i (omega (arith, l))), h n (omega arith))

  pub first_same : (n : ℕ) → ((i : ℕ) → i < n → f i ≡ g i) → first_to f n ≡ first_to g n
  unfolding first_to
  first_same zero h = refl
  first_same (suc n) h = rw (any_same n (λ i l. h i (omega (arith, l))), first_same n (λ i l. h i (omega (arith, l))), h n (omega arith))
