-- Laws of the bytes that are held of a line.
use Rattle.std.proofs.Common.{◌≡◌, ℕ, suc, ◌+◌, ◌<◌, ◌≤◌, eqb, ltb, List, [], ◌∷◌, ◌++◌, length, take, set, sym, refl, ap, ◌∙◌, append_assoc, append-nil, add-one, arith, length-append, length-set, length-take, length-take-le, take_all, take-suc-set, take_at, le-ltb, lt-ltb, ne_eqb}
use native.Mathlib.Decide.{dec_lt}
use Rattle.base_lists.proofs.Choices.{by_test}
use Rattle.drill_feed.specs.declared.Held.{Held}
use Rattle.drill_feed.specs.Feed.{room, empty_held, hold_byte, hold_all, held_text}

-- with no room left nothing changes
pub hold_full : (h : Held) (l : List ℕ) → room ≤ h.count → hold_all h l ≡ h
unfolding hold_all
hold_full h [] p = refl
hold_full h (b ∷ l) p = rw (le-ltb h.count room p) (hold_full h l p)

-- what is held of a line is its front
held_all : (h : Held) (l : List ℕ) → length h.bytes ≡ room → h.count ≤ room → held_text (hold_all h l) ≡ take room (held_text h ++ l)
unfolding hold_all
held_all h [] w p =
    let e : length (held_text h ++ []) ≤ room = omega (arith, length-append (held_text h) [], length-take h.count h.bytes) in
    sym (take_all room (held_text h ++ []) e ∙ append-nil (held_text h))
held_all h (c ∷ l) w p = go (held_all (record { bytes = set h.bytes h.count c; count = h.count + 1 }) l) (dec_lt h.count room)
  where
    go : (length (set h.bytes h.count c) ≡ room → h.count + 1 ≤ room
        → held_text (hold_all (record { bytes = set h.bytes h.count c; count = h.count + 1 }) l) ≡ take room (take (h.count + 1) (set h.bytes h.count c) ++ l))
        → Dec (h.count < room) → held_text (hold_all h (c ∷ l)) ≡ take room (held_text h ++ (c ∷ l))
    go ih (yes q) =
        let a : take (h.count + 1) (set h.bytes h.count c) ≡ held_text h ++ (c ∷ []) = rw add-one (take-suc-set h.bytes h.count c (omega arith)) in
        let b : hold_byte h c ≡ record { bytes = set h.bytes h.count c; count = h.count + 1 } = rw (lt-ltb h.count room q) in
        ap (λ x. held_text (hold_all x l)) b ∙ ih (length-set h.bytes h.count c ∙ w) (omega arith)
        ∙ ap (λ x. take room (x ++ l)) a ∙ ap (take room) (append_assoc (held_text h) (c ∷ []) l)
    go ih (no q) =
        let a : length (held_text h) ≡ room = length-take-le h.count h.bytes (omega arith) ∙ omega arith in
        ap held_text (hold_full h (c ∷ l) (omega arith)) ∙ sym (take_at (held_text h) (c ∷ l) room a)

pub held_line_lem : (l : List ℕ) → held_text (hold_all empty_held l) ≡ take room l
held_line_lem l = held_all empty_held l refl (omega arith)

hold-append : (h : Held) (a b : List ℕ) → hold_all h (a ++ b) ≡ hold_all (hold_all h a) b
unfolding hold_all
hold-append h [] b = refl
hold-append h (x ∷ a) b = hold-append (hold_byte h x) a b

pub hold_one : (l : List ℕ) (c : ℕ) → hold_all empty_held (l ++ (c ∷ [])) ≡ hold_byte (hold_all empty_held l) c
unfolding hold_all
hold_one l c = hold-append empty_held l (c ∷ [])

hold_grows : (h : Held) (l : List ℕ) → h.count ≤ (hold_all h l).count
unfolding hold_all
hold_grows h [] = omega arith
hold_grows h (c ∷ l) =
    let more : h.count ≤ (hold_byte h c).count = by_test (λ (x : Held). h.count ≤ x.count) (ltb h.count room) {x = record { bytes = set h.bytes h.count c; count = h.count + 1 }} {y = h} (λ t. omega arith) (λ t. omega arith) in
    omega (arith, more, hold_grows (hold_byte h c) l)

-- nothing is held exactly where the line is empty
pub held_none : (l : List ℕ) → eqb (hold_all empty_held l).count 0 ≡ eqb (length l) 0
unfolding hold_all
held_none [] = refl
held_none (c ∷ l) =
    let g : 1 ≤ (hold_all (hold_byte empty_held c) l).count = hold_grows (hold_byte empty_held c) l in
    ne_eqb (hold_all (hold_byte empty_held c) l).count 0 (λ e. omega arith) ∙ sym (ne_eqb (suc (length l)) 0 (λ e. omega arith))
