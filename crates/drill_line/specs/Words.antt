-- The words of a line, and the numbers among them.
use Rattle.std.specs.Prelude.{ℕ, ◌+◌, ◌*◌, ◌-◌, List, [], ◌∷◌, ltb, eqb, length, Option, Some, None, option_and_then, option_map, position}
use Rattle.base_lists.specs.Bounded.{if_else}
use Rattle.base_bytes.specs.Bytes.{byte}

abbrev pub longer : ℕ → List (List ℕ) → List (List ℕ)
longer c [] = (c ∷ []) ∷ []
longer c (w ∷ ws) = (c ∷ w) ∷ ws

-- a text cut at each byte that is the mark
unfoldable pub cut : ℕ → List ℕ → List (List ℕ)
cut mark [] = [] ∷ []
cut mark (c ∷ text) = if_else (eqb c mark) ([] ∷ cut mark text) (longer c (cut mark text))

-- "words have one space between them": two spaces have an empty word between them, which no move has
abbrev pub words : List ℕ → List (List ℕ)
words text = cut 32 text

-- how many bytes stand before the first space, where there is one
abbrev pub first_space : List ℕ → Option ℕ
first_space text = position (λ c. eqb c 32) text

abbrev pub digit_of : ℕ → Option ℕ
digit_of c = if_else (ltb c 48) None (if_else (ltb 57 c) None (Some (c - 48)))

-- "numbers no leading zeros": the first of several digits
abbrev pub first_digit_of : ℕ → Option ℕ
first_digit_of c = if_else (eqb c 48) None (digit_of c)

abbrev pub two_digits : Option ℕ → Option ℕ → Option ℕ
two_digits tens ones = option_and_then (λ t. option_map (λ o. 10 * t + o) ones) tens

abbrev pub three_digits : Option ℕ → Option ℕ → Option ℕ → Option ℕ
three_digits hundreds tens ones = option_and_then (λ h. option_and_then (λ t. option_map (λ o. 100 * h + 10 * t + o) ones) tens) hundreds

-- no move has a number of more digits
unfoldable pub number_of : List ℕ → Option ℕ
number_of w =
    if_else (eqb (length w) 1) (digit_of (byte w 0))
    (if_else (eqb (length w) 2) (two_digits (first_digit_of (byte w 0)) (digit_of (byte w 1)))
    (if_else (eqb (length w) 3) (three_digits (first_digit_of (byte w 0)) (digit_of (byte w 1)) (digit_of (byte w 2)))
    None))
