-- A block: its head, its entries or rows, its filler.
use Prim.Native.Nat.{ℕ, suc, ◌+◌, ◌*◌, ◌-◌, ◌≤◌, ◌<◌}
use mathlib.Core.Path.{◌≡◌, refl, ap, sym, ◌∙◌}
use mathlib.Core.List.{List, ◌++◌}
use lib.ListN.{length, get_or, replicate, get_or-append, get_or-eq_default, length-append}
use lib.Seq.{sets, get_or-append-add}
use native.Mathlib.Omega.{arith}
use native.Mathlib.Decide.{dec_lt}
use borrow.Author.Tests.{lt-ltb, le-ltb}
use Rattle.base_bytes.specs.Bytes.{byte}
use Rattle.base_bytes.specs.Puts.{Put}
use Rattle.base_bytes.proofs.Puts.{put_as, put_next, put_list, put_zero_run}
use Rattle.set_writer.specs.Write.{block_byte}

-- a head, entries or rows, and zeros
pub put_parts : (at : ℕ) (head used d x y z : List ℕ) → length head + length used ≤ 512 → at + 512 ≤ length d → x ≡ sets d at head → y ≡ sets x (at + length head) used
    → z ≡ sets y (at + length head + length used) (replicate (512 - length head - length used) 0) → Put at 512 (byte (head ++ used)) d z
put_parts at head used d x y z few long e f g =
    let h = length head in
    let u = length used in
    let all : ℕ → ℕ = byte (head ++ used) in
    let b1 : Put at h (byte head) d x = put_list at head d x e (omega arith) in
    let b2 : Put (at + h) u (byte used) x y = put_list (at + h) used x y f (omega (arith, b1.size)) in
    let b3 : Put (at + h + u) (512 - h - u) (λ i. 0) y z = put_zero_run _ _ y z g (omega (arith, b1.size, b2.size)) in
    let a1 : Put at h all d x = put_as at h (byte head) all d x b1 (λ i q. sym (get_or-append head used 0 i q)) in
    let a2 : Put at (h + u) all d y = put_next at h u (h + u) all (byte used) d x y (at + h) a1 b2 refl refl (λ i q. sym (get_or-append-add head used i 0)) in
    put_next at (h + u) (512 - h - u) 512 all (λ i. 0) d y z (at + h + u) a2 b3 (omega arith) (omega arith)
    (λ i q. sym (get_or-eq_default (head ++ used) 0 (omega (arith, length-append head used))))

module _ (head : List ℕ) (from : ℕ) (four : ℕ → ℕ) (count : ℕ) where
  abbrev B : ℕ → ℕ
  B o = block_byte head from four count o

  pub in_head : (o : ℕ) → o < from → B o ≡ get_or head o 0
  in_head o h = rw (lt-ltb o from h)

  pub in_fours : (i : ℕ) → i < 4 * count → B (from + i) ≡ four i
  in_fours i h =
      let z : from + i - from ≡ i = omega arith in
      rw (le-ltb (from + i) from (omega arith), lt-ltb (from + i) (from + 4 * count) (omega arith), z)

  pub in_filler : (o : ℕ) → from + 4 * count ≤ o → B o ≡ 0
  in_filler o h = rw (le-ltb o from (omega arith), le-ltb o (from + 4 * count) h)

  -- a list of bytes that has these three
  pub block_is : (g : ℕ → ℕ) (end : ℕ) → ((o : ℕ) → o < from → get_or head o 0 ≡ g o) → ((i : ℕ) → i < 4 * count → four i ≡ g (from + i))
      → ((o : ℕ) → from + 4 * count ≤ o → o < end → 0 ≡ g o) → (o : ℕ) → o < end → B o ≡ g o
  block_is g end a b c o h = go (dec_lt o from) (dec_lt o (from + 4 * count))
    where
      go : Dec (o < from) → Dec (o < from + 4 * count) → B o ≡ g o
      go (yes p) q = in_head o p ∙ a o p
      go (no p) (yes q) =
          let z : from + (o - from) ≡ o = omega arith in
          sym (ap B z) ∙ in_fours (o - from) (omega arith) ∙ b (o - from) (omega arith) ∙ ap g z
      go (no p) (no q) = in_filler o (omega arith) ∙ c o (omega arith) h

  -- a head and its entries or rows, behind which a byte reads as 0
  pub block_parts : (used : List ℕ) → length head ≡ from → length used ≡ 4 * count → ((i : ℕ) → i < 4 * count → four i ≡ byte used i) → (o : ℕ) → B o ≡ byte (head ++ used) o
  block_parts used l m same o =
      block_is (byte (head ++ used)) (suc o) (λ k h. sym (get_or-append head used 0 k (omega arith)))
      (λ i h. same i h ∙ sym (ap (λ k. byte (head ++ used) (k + i)) (sym l) ∙ get_or-append-add head used i 0))
      (λ k h q. sym (get_or-eq_default (head ++ used) 0 (omega (arith, length-append head used)))) o (omega arith)

pub block_same : (head : List ℕ) (from : ℕ) (four other : ℕ → ℕ) (count : ℕ) → ((i : ℕ) → i < 4 * count → four i ≡ other i)
    → (o : ℕ) → block_byte head from four count o ≡ block_byte head from other count o
block_same head from four other count e o =
    block_is head from four count (block_byte head from other count) (suc o) (λ m h. sym (in_head head from other count m h))
    (λ i h. e i h ∙ sym (in_fours head from other count i h)) (λ m h l. sym (in_filler head from other count m h)) o (omega arith)
