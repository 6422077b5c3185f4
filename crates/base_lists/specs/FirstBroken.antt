-- The refusal that a row of rules gives: the number of the first that is broken.
use Rattle.std.specs.Prelude.{ℕ, suc, List, [], ◌∷◌, Bool, true, false}

-- the rules are numbered from k on, true where kept; 0 where each is kept
abbrev pub first_broken : ℕ → List Bool → ℕ
first_broken k [] = 0
first_broken k (true ∷ rules) = first_broken (suc k) rules
first_broken k (false ∷ rules) = k
