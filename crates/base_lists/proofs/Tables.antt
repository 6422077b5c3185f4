-- Laws of lists by their places.
use Prim.Native.Nat.{ℕ, zero, suc, ◌+◌, ◌<◌}
use mathlib.Core.Path.{◌≡◌, refl, ap, ap₂, sym, ◌∙◌}
use mathlib.Core.List.{List, ◌∷◌}
use mathlib.Core.Bool.{Bool, true, false, or-true, or-false}
use mathlib.Core.Logic.{⊎_elim}
use lib.ListN.{get_or, set, length}
use lib.Seq.{get_or-set_same, get_or-set_other, ext_get_or}
use native.Mathlib.Omega.{arith}
use native.Mathlib.Decide.{ℕ_discrete}
use Rattle.base_lists.specs.Bounded.{any_to, tab}
use Rattle.base_lists.proofs.AllAny.{below_cases, any_next}

pub length-tab {ℓ} : {A : Type ℓ} (n : ℕ) (f : ℕ → A) → length (tab n f) ≡ n
unfolding tab
length-tab zero f = refl
length-tab (suc n) f = ap suc (length-tab n (λ k. f (suc k)))

pub get_or-tab {ℓ} : {A : Type ℓ} (n : ℕ) (f : ℕ → A) (i : ℕ) (d : A) → i < n → get_or (tab n f) i d ≡ f i
unfolding tab
get_or-tab zero f i d p = absurd (omega arith)
get_or-tab (suc n) f zero d p = refl
get_or-tab (suc n) f (suc i) d p = get_or-tab n (λ k. f (suc k)) i d (omega arith)

pub tab_ext {ℓ} : {A : Type ℓ} (n : ℕ) (f g : ℕ → A) → ((i : ℕ) → i < n → f i ≡ g i) → tab n f ≡ tab n g
unfolding tab
tab_ext zero f g h = refl
tab_ext (suc n) f g h = ap₂ ◌∷◌ (h 0 (omega arith)) (tab_ext n (λ k. f (suc k)) (λ k. g (suc k)) (λ i p. h (suc i) (omega arith)))

-- a list is the table of its elements
pub tab_of {ℓ} : {A : Type ℓ} (d : A) (n : ℕ) (f : ℕ → A) (l : List A) → length l ≡ n → ((i : ℕ) → i < n → get_or l i d ≡ f i) → l ≡ tab n f
tab_of d n f l e h = ext_get_or d l (tab n f) (e ∙ sym (length-tab n f)) (λ i p. h i (omega arith) ∙ sym (get_or-tab n f i d (omega arith)))

-- one store more of a loop that fills a list from the front
pub filled_more {ℓ} : {A : Type ℓ} (d : A) (f : ℕ → A) (l : List A) (n : ℕ) (v : A) → n < length l → v ≡ f n
    → ((i : ℕ) → i < n → get_or l i d ≡ f i) → (i : ℕ) → i < n + 1 → get_or (set l n v) i d ≡ f i
filled_more d f l n v b e h i p = ⊎_elim below here (below_cases i n (omega arith))
  where
    below : i < n → get_or (set l n v) i d ≡ f i
    below q = get_or-set_other l n i v d (λ w. omega arith) ∙ h i q

    here : i ≡ n → get_or (set l n v) i d ≡ f i
    here q = rw q (get_or-set_same l n v d b ∙ e)

-- a table of marks, k marked where some f k i holds: one more mark
pub marked_more : (f : ℕ → ℕ → Bool) (l : List Bool) (j p : ℕ) → p < length l → f p j ≡ true → ((k : ℕ) → (k ≡ p → ⊥) → f k j ≡ false)
    → ((k : ℕ) → k < length l → get_or l k false ≡ any_to (f k) j) → (k : ℕ) → k < length l → get_or (set l p true) k false ≡ any_to (f k) (j + 1)
marked_more f l j p b y n h k q = go (ℕ_discrete k p)
  where
    go : Dec (k ≡ p) → get_or (set l p true) k false ≡ any_to (f k) (j + 1)
    go (yes e) = rw (e, get_or-set_same l p true false b, any_next, y, or-true)
    go (no e) = rw (get_or-set_other l p k true false e, any_next, n k e, or-false) (h k q)
