-- Laws of a line's words.
use Rattle.std.proofs.Common.{◌≡◌, ℕ, suc, ◌+◌, ◌-◌, ◌<◌, ◌≤◌, Bool, true, false, cond, eqb, ltb, List, [], ◌∷◌, length, take, drop, Option, Some, None, is_some, Bor, sym, refl, ap, ◌∙◌, arith, length-drop, take_all}
use Rattle.std.specs.Option.{MatchOption}
use Rattle.std.specs.List.{slice_split, onto_first, position_or_len}
use Rattle.std.proofs.lemmas.List.Splits.{slice_split_first}
use borrow.Author.Tests.{ltb-true, ltb-false}
use Rattle.base_lists.specs.Bounded.{if_else}
use Rattle.drill_line.specs.Words.{cut, words, first_space, longer}
use Rattle.drill_line.specs.Parse.{line_of}

abbrev is_space : ℕ → Bool
is_space c = eqb c 32

abbrev place : List ℕ → ℕ
place s = position_or_len is_space s

-- the words are the library's parts
longer_onto : (c : ℕ) (ws : List (List ℕ)) → longer c ws ≡ onto_first c ws
longer_onto c [] = refl
longer_onto c (w ∷ ws) = refl

words_split : (s : List ℕ) → words s ≡ slice_split is_space s
unfolding cut
words_split [] = refl
words_split (c ∷ s) = go (words_split s) (is_space c)
  where
    go : words s ≡ slice_split is_space s → (t : Bool) → if_else t ([] ∷ words s) (longer c (words s)) ≡ cond t ([] ∷ slice_split is_space s) (onto_first c (slice_split is_space s))
    go e true = ap (λ ws. [] ∷ ws) e
    go e false = longer_onto c (words s) ∙ ap (onto_first c) e

-- the words of a text with a space, and of one without
more : (s : List ℕ) → place s < length s → words s ≡ take (place s) s ∷ words (drop (place s + 1) s)
more s p = words_split s ∙ slice_split_first is_space s 32 p ∙ ap (λ ws. take (place s) s ∷ ws) (sym (words_split (drop (place s + 1) s)))

one : (s : List ℕ) → length s ≤ place s → words s ≡ s ∷ []
unfolding cut
one [] p = refl
one (c ∷ s) p = go (one s) (is_space c) refl
  where
    go : (length s ≤ place s → words s ≡ s ∷ []) → (t : Bool) → is_space c ≡ t → words (c ∷ s) ≡ (c ∷ s) ∷ []
    go h true e = let q : suc (length s) ≤ 0 = rw e at p in absurd (omega arith)
    go h false e = let q : suc (length s) ≤ 1 + place s = rw e at p in rw (e, h (omega arith))

-- what a split at the first space says
pub split_none : (s : List ℕ) → first_space s ≡ None → words s ≡ s ∷ []
split_none s = go (ltb (place s) (length s)) refl
  where
    go : (t : Bool) → ltb (place s) (length s) ≡ t → cond t (Some (place s)) None ≡ None → words s ≡ s ∷ []
    go true e h = cc
    go false e h = one s (ltb-false _ _ e)

pub split_some : (s : List ℕ) (i : ℕ) → first_space s ≡ Some i → words s ≡ take i s ∷ words (drop (i + 1) s)
split_some s i = go (ltb (place s) (length s)) refl
  where
    go : (t : Bool) → ltb (place s) (length s) ≡ t → cond t (Some (place s)) None ≡ Some i → words s ≡ take i s ∷ words (drop (i + 1) s)
    go true e h = let q : place s ≡ i = cc in rw (← q) (more s (ltb-true _ _ e))
    go false e h = cc

-- the same, where what is behind the space is a range of the slice
pub split_range : (s : List ℕ) (i : ℕ) → first_space s ≡ Some i → words s ≡ take i s ∷ words (take (length s - (i + 1)) (drop (i + 1) s))
split_range s i h =
    let p : length (drop (i + 1) s) ≤ length s - (i + 1) = omega (arith, length-drop (i + 1) s) in
    split_some s i h ∙ ap (λ r. take i s ∷ words r) (sym (take_all (length s - (i + 1)) (drop (i + 1) s) p))

-- a first word, and the words of what is behind it
pub behind : (s t w : List ℕ) (ws : List (List ℕ)) → words s ≡ w ∷ words t → words t ≡ ws → words s ≡ w ∷ ws
behind s t w ws p q = p ∙ ap (λ ws. w ∷ ws) q

-- what a split of the fourth word says
abbrev Parts : List ℕ → Option (Bor (List ℕ) × Bor (List ℕ)) → Type 0
Parts s r = MatchOption r (words s ≡ s ∷ []) (λ parts. words s ≡ parts.0.now ∷ words parts.1.now)

pub last_word : (s : List ℕ) (r : Option (Bor (List ℕ) × Bor (List ℕ))) → is_some r ≡ false → Parts s r → words s ≡ s ∷ []
last_word s None e h = h
last_word s (Some parts) e h = cc

-- five words are no line
longer_bad : (a b c d : List ℕ) (n x : ℕ) (ws : List (List ℕ)) → None ≡ line_of (a ∷ b ∷ c ∷ d ∷ longer x ws) n
longer_bad a b c d n x [] = refl
longer_bad a b c d n x (w ∷ ws) = refl

five_bad : (a b c d : List ℕ) (n : ℕ) (s : List ℕ) → None ≡ line_of (a ∷ b ∷ c ∷ d ∷ words s) n
unfolding cut
five_bad a b c d n [] = refl
five_bad a b c d n (x ∷ s) = go (eqb x 32)
  where
    go : (t : Bool) → None ≡ line_of (a ∷ b ∷ c ∷ d ∷ if_else t ([] ∷ words s) (longer x (words s))) n
    go true = refl
    go false = longer_bad a b c d n x (words s)

pub too_many : (a b c : List ℕ) (n : ℕ) (s : List ℕ) (r : Option (Bor (List ℕ) × Bor (List ℕ))) → is_some r ≡ true → Parts s r → None ≡ line_of (a ∷ b ∷ c ∷ words s) n
too_many a b c n s None e h = cc
too_many a b c n s (Some parts) e h = five_bad a b c parts.0.now n parts.1.now ∙ ap (λ ws. line_of (a ∷ b ∷ c ∷ ws) n) (sym h)
