-- Laws of a list with each of its first elements replaced.
use Prim.Native.Nat.{ℕ, zero, suc, ◌+◌, ◌<◌}
use mathlib.Core.Path.{◌≡◌, refl, ap}
use mathlib.Core.List.{List, [], ◌∷◌}
use native.Mathlib.Omega.{arith}
use native.Mathlib.Numerals.{add-one}
use lib.ListN.{length, get_or, set}
use Rattle.bus_nodes.specs.Each.{each_to}

module _ {A : Type 0} where
  -- the next element is still the one that was there
  each_at : (f : ℕ → A → A) (i : ℕ) (l : List A) (d : A) → get_or (each_to f i l) i d ≡ get_or l i d
  each_at f zero l d = refl
  each_at f (suc i) [] d = refl
  each_at f (suc i) (x ∷ l) d = each_at (λ k. f (suc k)) i l d

  each_set : (f : ℕ → A → A) (i : ℕ) (l : List A) (d : A) → set (each_to f i l) i (f i (get_or l i d)) ≡ each_to f (suc i) l
  each_set f zero [] d = refl
  each_set f zero (x ∷ l) d = refl
  each_set f (suc i) [] d = refl
  each_set f (suc i) (x ∷ l) d = ap (λ (t : List A). f 0 x ∷ t) (each_set (λ k. f (suc k)) i l d)

  -- one element more
  pub each_more : (f : ℕ → A → A) (l next : List A) (i : ℕ) (r d : A) → next ≡ each_to f i l → r ≡ f i (get_or next i d) → set next i r ≡ each_to f (i + 1) l
  each_more f l next i r d e q = rw (q, e, each_at, add-one) (each_set f i l d)

  pub each_next : (f : ℕ → A → A) (l next : List A) (i : ℕ) (d : A) → next ≡ each_to f i l → get_or next i d ≡ get_or l i d
  each_next f l next i d e = rw e (each_at f i l d)

  pub each_length : (f : ℕ → A → A) (n : ℕ) (l : List A) → length (each_to f n l) ≡ length l
  each_length f zero l = refl
  each_length f (suc n) [] = refl
  each_length f (suc n) (x ∷ l) = ap suc (each_length (λ k. f (suc k)) n l)

  -- the element at a place below the bound
  pub each_get : (f : ℕ → A → A) (n : ℕ) (l : List A) (i : ℕ) (d : A) → i < n → i < length l → get_or (each_to f n l) i d ≡ f i (get_or l i d)
  each_get f zero l i d h g = absurd (omega arith)
  each_get f (suc n) [] i d h g = absurd (omega arith)
  each_get f (suc n) (x ∷ l) zero d h g = refl
  each_get f (suc n) (x ∷ l) (suc i) d h g = each_get (λ k. f (suc k)) n l i d (omega arith) (omega arith)
