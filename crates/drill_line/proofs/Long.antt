-- Long lines are no moves, so that the first bytes of a line are enough to judge it by.
use Rattle.std.proofs.Common.{◌≡◌, ℕ, suc, ◌+◌, ◌<◌, Bool, true, false, eqb, List, [], ◌∷◌, length, take, Option, Some, None, refl, ap, sym, ◌∙◌, arith, length-take, take_all, ne_eqb}
use Rattle.std.specs.Prelude.{option_and_then}
use Rattle.std.specs.Str.{bytes_eq}
use Rattle.std.proofs.lemmas.Slice.Eq.{bytes_eq-Decides}
use native.Mathlib.Decide.{dec_lt}
use Rattle.base_lists.specs.Bounded.{if_else}
use Rattle.base_text.specs.Text.{ascii}
use Rattle.drill_line.specs.declared.LineMove.{LineMove}
use Rattle.drill_line.specs.Words.{cut, words, longer, number_of}
use Rattle.drill_line.specs.Parse.{who_of, fate_of, reqid_of, permission_of, one_word, two_words, three_words, four_words, line_of, parse_line}

same_length : (a b : List ℕ) → bytes_eq a b ≡ true → length a ≡ length b
same_length a b e = ap length ((bytes_eq-Decides a b).0 e)

other : (a b : List ℕ) → (length a ≡ length b → ⊥) → bytes_eq a b ≡ false
other a b n = go (bytes_eq a b) refl
  where
    go : (t : Bool) → bytes_eq a b ≡ t → bytes_eq a b ≡ false
    go true e = absurd (n (same_length a b e))
    go false e = e

number_long : (w : List ℕ) → 3 < length w → number_of w ≡ None
unfolding number_of
number_long w p = rw (ne_eqb (length w) 1 (λ e. omega arith), ne_eqb (length w) 2 (λ e. omega arith), ne_eqb (length w) 3 (λ e. omega arith))

who_long : (w : List ℕ) (n : ℕ) → 3 < length w → who_of w n ≡ None
unfolding who_of
who_long w n p = rw (other w (ascii "m") (λ e. omega arith), number_long w p)

reqid_long : (w : List ℕ) → 3 < length w → reqid_of w ≡ None
unfolding reqid_of
reqid_long w p = rw (number_long w p)

fate_long : (w : List ℕ) → 4 < length w → fate_of w ≡ None
unfolding fate_of
fate_long w p = rw (other w (ascii "ok") (λ e. omega arith), other w (ascii "bad") (λ e. omega arith), other w (ascii "lost") (λ e. omega arith))

permission_long : (w : List ℕ) → 1 < length w → permission_of w ≡ None
unfolding permission_of
permission_long w p = rw (other w (ascii "0") (λ e. omega arith), other w (ascii "1") (λ e. omega arith))

-- one of several words is of no move
none_after : {A B : Type 0} (o : Option A) → option_and_then {T = A} {U = B} (λ _. None) o ≡ None
none_after None = refl
none_after (Some x) = refl

one_long : (a : List ℕ) → 5 < length a → one_word a ≡ None
one_long a p = rw (other a (ascii "tick") (λ e. omega arith), other a (ascii "sleep") (λ e. omega arith))

two_long : (a b : List ℕ) (n : ℕ) → 8 < length a + length b → two_words a b n ≡ None
two_long a b n p = go (bytes_eq a (ascii "wake")) refl (bytes_eq a (ascii "sent")) refl
  where
    go : (t : Bool) → bytes_eq a (ascii "wake") ≡ t → (u : Bool) → bytes_eq a (ascii "sent") ≡ u → two_words a b n ≡ None
    go true e u f = let g : length a ≡ 4 = same_length a (ascii "wake") e in rw (e, who_long b n (omega arith))
    go false e true f =
        let g : length a ≡ 4 = same_length a (ascii "sent") f in
        rw (e, f, other b (ascii "ok") (λ x. omega arith), other b (ascii "fail") (λ x. omega arith))
    go false e false f = rw (e, f)

three_long : (a b c : List ℕ) (n : ℕ) → 10 < length a + (length b + length c) → three_words a b c n ≡ None
three_long a b c n p = go (bytes_eq a (ascii "permit")) refl (bytes_eq a (ascii "req")) refl (dec_lt 3 (length b))
  where
    go : (t : Bool) → bytes_eq a (ascii "permit") ≡ t → (u : Bool) → bytes_eq a (ascii "req") ≡ u → Dec (3 < length b) → three_words a b c n ≡ None
    go true e u f (yes l) = rw (e, who_long b n l)
    go true e u f (no l) =
        let g : length a ≡ 6 = same_length a (ascii "permit") e in
        rw (e, permission_long c (omega arith)) (none_after (who_of b n))
    go false e true f (yes l) = rw (e, f, reqid_long b l)
    go false e true f (no l) =
        let g : length a ≡ 3 = same_length a (ascii "req") f in
        rw (e, f, fate_long c (omega arith)) (none_after (reqid_of b))
    go false e false f d = rw (e, f)

four_long : (a b c d : List ℕ) (n : ℕ) → 14 < length a + (length b + (length c + length d)) → four_words a b c d n ≡ None
four_long a b c d n p = go (bytes_eq a (ascii "send")) refl (dec_lt 3 (length b)) (dec_lt 3 (length c))
  where
    go : (t : Bool) → bytes_eq a (ascii "send") ≡ t → Dec (3 < length b) → Dec (3 < length c) → four_words a b c d n ≡ None
    go true e (yes l) k = rw (e, who_long b n l)
    go true e (no l) (yes k) = rw (e, reqid_long c k) (none_after (who_of b n))
    go true e (no l) (no k) =
        let g : length a ≡ 4 = same_length a (ascii "send") e in
        rw (e, fate_long d (omega arith), none_after {B = LineMove} (reqid_of c)) (none_after (who_of b n))
    go false e l k = rw e

-- the bytes of words, with the spaces between them and one more
abbrev total : List (List ℕ) → ℕ
total [] = 0
total (w ∷ ws) = length w + 1 + total ws

longer_total : (c : ℕ) (ws : List (List ℕ)) → 0 < total ws → total (longer c ws) ≡ suc (total ws)
longer_total c [] p = absurd (omega arith)
longer_total c (w ∷ ws) p = omega arith

words_total : (s : List ℕ) → total (words s) ≡ suc (length s)
unfolding cut
words_total [] = omega arith
words_total (c ∷ s) = go (words_total s) (eqb c 32)
  where
    go : total (words s) ≡ suc (length s) → (t : Bool) → total (if_else t ([] ∷ words s) (longer c (words s))) ≡ suc (suc (length s))
    go e true = omega (arith, e)
    go e false = longer_total c (words s) (omega (arith, e)) ∙ ap suc e

line_long : (ws : List (List ℕ)) (n : ℕ) → 18 < total ws → line_of ws n ≡ None
line_long [] n p = refl
line_long (a ∷ []) n p = one_long a (omega arith)
line_long (a ∷ b ∷ []) n p = two_long a b n (omega arith)
line_long (a ∷ b ∷ c ∷ []) n p = three_long a b c n (omega arith)
line_long (a ∷ b ∷ c ∷ d ∷ []) n p = four_long a b c d n (omega arith)
line_long (a ∷ b ∷ c ∷ d ∷ e ∷ ws) n p = refl

-- no move has more bytes: `send`, two numbers of three digits, `lost`, and the spaces between them
abbrev pub longest : ℕ
longest = 17

pub long_bad : (s : List ℕ) (n : ℕ) → longest < length s → parse_line s n ≡ None
unfolding parse_line
long_bad s n p = line_long (words s) n (omega (arith, words_total s))

-- so more than that many bytes of a line are enough to judge it by
pub enough : (k : ℕ) (s : List ℕ) (n : ℕ) → longest < k → parse_line (take k s) n ≡ parse_line s n
enough k s n r = go (dec_lt k (length s))
  where
    go : Dec (k < length s) → parse_line (take k s) n ≡ parse_line s n
    go (yes l) = long_bad (take k s) n (omega (arith, length-take k s)) ∙ sym (long_bad s n (omega arith))
    go (no l) = ap (λ x. parse_line x n) (take_all k s (omega arith))
