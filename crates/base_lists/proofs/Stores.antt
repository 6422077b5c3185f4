-- Laws of a list stored into another from an index on (`sets`): a store past the end changes nothing.
use Prim.Native.Nat.{ℕ, suc, ◌+◌, ◌≤◌, ◌<◌}
use mathlib.Core.Path.{◌≡◌, refl, ap, sym, ◌∙◌}
use mathlib.Core.List.{List, [], ◌∷◌, ◌++◌, append_assoc}
use lib.ListN.{length, get_or, set, take, drop, take-append-drop}
use lib.Seq.{sets, sets-eq, set_out, take-suc, take_all, length-take-le, length-sets, drop-drop}
use borrow.Rule.Slice.PartMut.{put_mid}
use native.Mathlib.Omega.{arith}
use native.Mathlib.Numerals.{add-one}
use native.Mathlib.Decide.{dec_lt}

module _ {A : Type 0} where
  -- a list, then another behind it
  pub sets-append : (a b l : List A) (i : ℕ) → sets (sets l i a) (i + length a) b ≡ sets l i (a ++ b)
  sets-append [] b l i = ap (λ k. sets l k b) (omega arith)
  sets-append (c ∷ a) b l i = ap (λ k. sets (sets (set l i c) (suc i) a) k b) (omega arith) ∙ sets-append a b (set l i c) (suc i)

  -- nothing is stored past the end
  pub sets_out : (a l : List A) (i : ℕ) → length l ≤ i → sets l i a ≡ l
  sets_out [] l i p = refl
  sets_out (c ∷ a) l i p = rw (set_out l i c p) (sets_out a l (suc i) (omega arith))

  -- one store more of a loop that copies a list from its front
  pub sets_more : (a l x : List A) (at i : ℕ) (d : A) → i < length a → x ≡ sets l at (take i a)
      → set x (at + i) (get_or a i d) ≡ sets l at (take (i + 1) a)
  sets_more a l x at i d p e =
      let n : length (take i a) ≡ i = length-take-le i a (omega arith) in
      ap (λ (y : List A). set y (at + i) (get_or a i d)) e
      ∙ ap (λ k. sets (sets l at (take i a)) (at + k) (get_or a i d ∷ [])) (sym n)
      ∙ sets-append (take i a) (get_or a i d ∷ []) l at
      ∙ ap (sets l at) (sym (take-suc a i d p) ∙ ap (λ k. take k a) (sym (add-one i)))

  -- a part that was written whole
  pub sets_part : (a l : List A) (at k : ℕ) → length a ≡ k → at + k ≤ length l → put_mid at k l a ≡ sets l at a
  sets_part a l at k e h =
      let z : at + length a ≤ length l = omega arith in
      rw (sets-eq a l at z, e, drop-drop k at l) (sym (append_assoc (take at l) a (drop (at + k) l)))

  -- the elements that lie past the end of the other list may be left out
  pub sets_reach : (a l : List A) (at m : ℕ) → m ≤ length a → (m < length a → length l ≤ at + m) → sets l at (take m a) ≡ sets l at a
  sets_reach a l at m p q = go (dec_lt m (length a))
    where
      go : Dec (m < length a) → sets l at (take m a) ≡ sets l at a
      go (no n) = ap (sets l at) (take_all m a (omega arith))
      go (yes n) =
          let e : length (take m a) ≡ m = length-take-le m a p in
          let out : length l ≤ at + m = q n in
          let rest : sets (sets l at (take m a)) (at + m) (drop m a) ≡ sets l at (take m a)
          = sets_out (drop m a) (sets l at (take m a)) (at + m) (omega (arith, length-sets l at (take m a))) in
          sym rest ∙ ap (λ k. sets (sets l at (take m a)) (at + k) (drop m a)) (sym e)
          ∙ sets-append (take m a) (drop m a) l at ∙ ap (sets l at) (take-append-drop m a)

  -- as much of a list as finds room, written whole
  pub sets_front : (a l p : List A) (at m k : ℕ) → k ≡ m → p ≡ take m a → m ≤ length a → at + m ≤ length l
      → (m < length a → length l ≤ at + m) → put_mid at k l p ≡ sets l at a
  sets_front a l p at m k e w q room out = rw (e, w) (sets_part (take m a) l at m (length-take-le m a q) room ∙ sets_reach a l at m q out)
