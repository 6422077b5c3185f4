-- Each of the first elements of a list, replaced by a function of its place and itself.
use Rattle.std.specs.Prelude.{ℕ, zero, suc, List, [], ◌∷◌}

abbrev pub each_to : {A : Type 0} → (ℕ → A → A) → ℕ → List A → List A
each_to f zero l = l
each_to f (suc n) [] = []
each_to f (suc n) (x ∷ l) = f 0 x ∷ each_to (λ k. f (suc k)) n l
