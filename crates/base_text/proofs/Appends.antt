-- Laws of texts written to a buffer one after the other.
use Prim.Native.Nat.{ℕ, ◌+◌, ◌≤◌, ◌<◌, min, max}
use mathlib.Core.Path.{◌≡◌, refl, ap, ap₂, sym, ◌∙◌}
use mathlib.Core.List.{List, [], ◌∷◌, ◌++◌}
use lib.ListN.{length, length-append}
use lib.Seq.{sets, length-sets}
use native.Mathlib.Omega.{arith}
use native.Mathlib.Decide.{dec_lt}
use Rattle.base_lists.proofs.Stores.{sets-append, sets_out}
use Rattle.base_text.specs.Text.{Appended, wrote, largest}
use Rattle.base_text.specs.declared.Writer.{Writer}

-- what a writer holds is appended: no index and no buffer is longer than the largest index
pub wrote_appended : (text : List ℕ) (w : Writer) → w.at ≤ largest → length w.buffer.now ≤ largest
    → Appended w.at text w.buffer.now (wrote text w).buffer.now (wrote text w).at
unfolding wrote
wrote_appended text w p q = record { next = omega arith; bytes = refl }

-- no text
pub wrote_none : (w : Writer) → wrote [] w ≡ w
unfolding wrote
wrote_none w =
    let f : min (w.at + 0) (max largest (max w.at (length w.buffer.now))) ≡ w.at = omega arith in
    ap (λ (n : ℕ). record { buffer = w.buffer; at = n }) f

-- a text is written as its parts are, one after the other
pub wrote_append : (a b : List ℕ) (w : Writer) → wrote (a ++ b) w ≡ wrote b (wrote a w)
unfolding wrote
wrote_append a b w =
    let f : min (w.at + length (a ++ b)) (max largest (max w.at (length l))) ≡ min (next + length b) (max largest (max next (length (sets l w.at a)))) =
    omega (arith, length-append a b, length-sets l w.at a) in
    ap₂ (λ (m : List ℕ) (n : ℕ). record { buffer = record w.buffer { now = m }; at = n }) (go (dec_lt (w.at + length a) (length l))) f
  where
    l : List ℕ
    l = w.buffer.now

    next : ℕ
    next = min (w.at + length a) (max largest (max w.at (length l)))

    go : Dec (w.at + length a < length l) → sets l w.at (a ++ b) ≡ sets (sets l w.at a) next b
    go (yes p) = let e : next ≡ w.at + length a = omega arith in rw e (sym (sets-append a b l w.at))
    go (no p) =
        let past : length (sets l w.at a) ≤ next = omega (arith, length-sets l w.at a) in
        let far : length (sets l w.at a) ≤ w.at + length a = omega (arith, length-sets l w.at a) in
        sym (sets_out b (sets l w.at a) next past ∙ sym (sets_out b (sets l w.at a) (w.at + length a) far) ∙ sets-append a b l w.at)

-- a text, then another, by what each left
pub wrote_then : (w : Writer) (a b : List ℕ) {m o : Writer} → m ≡ wrote a w → o ≡ wrote b m → o ≡ wrote (a ++ b) w
wrote_then w a b v t = t ∙ ap (wrote b) v ∙ sym (wrote_append a b w)

-- a quoted text computes to its bytes, and goes byte by byte
pub wrote_cons : (x : ℕ) (a : List ℕ) (w : Writer) → wrote (x ∷ a) w ≡ wrote a (wrote (x ∷ []) w)
wrote_cons x a w = wrote_append (x ∷ []) a w

pub ruleset writing = (wrote_none, wrote_append, wrote_cons)
