-- The packed record of a set, put span by span.
use Prim.Native.Nat.{ℕ, zero, suc, ◌+◌, ◌*◌, ◌-◌, ◌/◌, ◌%◌, ◌≤◌, ◌<◌, min}
use mathlib.Core.Path.{◌≡◌, refl, ap, sym, ◌∙◌}
use mathlib.Core.List.{List, [], ◌∷◌}
use mathlib.Core.Bool.{Bool, true, false}
use lib.ListN.{length, get_or, take, drop, replicate, get_or-eq_default, length-take, length-drop}
use lib.Seq.{sets}
use lib.Dec.{ltb, eqb}
use native.Mathlib.Omega.{arith}
use native.Mathlib.Decide.{dec_lt}
use borrow.Author.Tests.{lt-ltb, le-ltb, ne_eqb, eqb-true}
use Rattle.base_lists.specs.Bounded.{if_else, tab}
use Rattle.base_bytes.specs.Bytes.{byte}
use Rattle.base_bytes.specs.Puts.{Put}
use Rattle.base_bytes.proofs.Puts.{put_as, put_next, put_slice, put_filled}
use Rattle.set_plan.specs.Record.{zero_entry, zero_row}
use Rattle.set_record.specs.Entries.{four_byte_at, entry_from, entry_bytes, entry_byte_at, row_from, row_bytes, row_byte_at}
use Rattle.set_record.proofs.FourBytes.{entry_byte, row_byte, table_byte, four_there}
use Rattle.set_reader.specs.Layout.{entry_of, entries_of, rowcount_of, row_place, row_of, rows_of}
use Rattle.set_reader.specs.Rules.{length_right}

-- the bytes of an unused place
four_zeros : (m : ℕ) → ◌≡◌ {A = ℕ} (get_or (0 ∷ 0 ∷ 0 ∷ 0 ∷ []) m 0) 0
four_zeros zero = refl
four_zeros (suc zero) = refl
four_zeros (suc (suc zero)) = refl
four_zeros (suc (suc (suc zero))) = refl
four_zeros (suc (suc (suc (suc m)))) = refl

-- some bytes from an offset on, then zeros over what they leave of so many
abbrev filled : List ℕ → ℕ → List ℕ → ℕ → List ℕ
filled d start used room = sets (sets d start used) (start + length used) (replicate (room - length used) 0)

-- the same of a part of a set, as a run of bytes
part_put : (start a k n : ℕ) (f : ℕ → ℕ) (s d y : List ℕ) → y ≡ filled d start (take (a + k - a) (drop a s)) n → k ≤ n → a + k ≤ length s → start + n ≤ length d
    → ((i : ℕ) → i < k → byte s (a + i) ≡ f i) → ((i : ℕ) → k ≤ i → i < n → 0 ≡ f i) → Put start n f d y
part_put start a k n f s d y e fits within room used none =
    let same : a + k - a ≡ k = omega arith in
    let long : length (take k (drop a s)) ≡ k = omega (arith, length-take k (drop a s), length-drop a s) in
    put_filled start a k n f s d (sets d start (take k (drop a s))) y refl (rw (same, long) at e) fits within room used none

-- the rows of two message blocks, then zeros
two_parts : (f : ℕ → ℕ) (s : List ℕ) (more : ℕ) (d x z : List ℕ) → 1536 ≤ length s → more ≤ 108
    → x ≡ sets d 83 (take (520 + 400 - 520) (drop 520 s)) → z ≡ filled x 483 (take (1032 + more - 1032) (drop 1032 s)) 108 → 592 ≤ length d
    → ((i : ℕ) → i < 400 → byte s (520 + i) ≡ f i) → ((i : ℕ) → i < more → byte s (1032 + i) ≡ f (400 + i)) → ((i : ℕ) → more ≤ i → i < 108 → 0 ≡ f (400 + i)) → Put 83 508 f d z
two_parts f s more d x z size a e w long first second none =
    let u : Put 83 400 (λ i. byte s (520 + i)) d x = put_slice 83 520 400 s d x e (omega arith) (omega arith) in
    let g : Put 483 108 (λ i. f (400 + i)) x z = part_put 483 1032 more 108 (λ i. f (400 + i)) s x z w a (omega arith) (omega (arith, u.size)) second none in
    put_next 83 400 108 508 f (λ i. f (400 + i)) d x z 483 (put_as 83 400 (λ i. byte s (520 + i)) f d x u first) g refl refl (λ i q. refl)

-- the four bytes of places that are read below a count, the others zero
module _ {A : Type 0} (bytes : A → List ℕ) (none : A) (from : ℕ → A) (s : List ℕ) (place : ℕ → ℕ) (zeros : (m : ℕ) → byte (bytes none) m ≡ 0) (read : (k m : ℕ) → m < 4 → byte (bytes (from k)) m ≡ byte s (place k + m)) (n count : ℕ) where
  abbrev four : ℕ → ℕ
  four i = four_byte_at (λ k. bytes (get_or (tab n (λ k. if_else (ltb k count) (from k) none)) k none)) i

  used : (i : ℕ) → i < 4 * min count n → four i ≡ byte s (place (i / 4) + i % 4)
  used i h = table_byte bytes none _ n i (omega arith) ∙ rw (lt-ltb (i / 4) count (omega arith)) (read (i / 4) (i % 4) (omega arith))

  unused : (i : ℕ) → 4 * min count n ≤ i → i < 4 * n → four i ≡ 0
  unused i h q = table_byte bytes none _ n i q ∙ rw (le-ltb (i / 4) count (omega arith)) (zeros (i % 4))

module _ (s : List ℕ) (count : ℕ) where
  pub entry_used : (i : ℕ) → i < 4 * min count 16 → entry_byte_at (entries_of s count) i ≡ byte s (32 + i)
  unfolding entries_of entry_of
  entry_used i h = used entry_bytes zero_entry (λ k. entry_from s (32 + 4 * k)) s (λ k. 32 + 4 * k) four_zeros (λ k. entry_byte s (32 + 4 * k)) 16 count i h ∙ four_there s 32 i

  entry_unused : (i : ℕ) → 4 * min count 16 ≤ i → i < 64 → entry_byte_at (entries_of s count) i ≡ 0
  unfolding entries_of entry_of
  entry_unused = unused entry_bytes zero_entry (λ k. entry_from s (32 + 4 * k)) s (λ k. 32 + 4 * k) four_zeros (λ k. entry_byte s (32 + 4 * k)) 16 count

  row_used : (i : ℕ) → i < 4 * min count 127 → row_byte_at (rows_of s count) i ≡ byte s (row_place (i / 4) + i % 4)
  unfolding rows_of row_of
  row_used = used row_bytes zero_row (λ j. row_from s (row_place j)) s row_place four_zeros (λ j. row_byte s (row_place j)) 127 count

  row_unused : (i : ℕ) → 4 * min count 127 ≤ i → i < 508 → row_byte_at (rows_of s count) i ≡ 0
  unfolding rows_of row_of
  row_unused = unused row_bytes zero_row (λ j. row_from s (row_place j)) s row_place four_zeros (λ j. row_byte s (row_place j)) 127 count

  pub row_first : (i : ℕ) → i < 4 * min count 100 → row_byte_at (rows_of s count) i ≡ byte s (520 + i)
  unfolding row_place
  row_first i h = row_used i (omega arith) ∙ rw (lt-ltb (i / 4) 100 (omega arith)) (four_there s 520 i)

  pub row_second : (i : ℕ) → 400 ≤ i → i < 4 * min count 127 → row_byte_at (rows_of s count) i ≡ byte s (632 + i)
  unfolding row_place
  row_second i a h = row_used i h ∙ rw (le-ltb (i / 4) 100 (omega arith)) (four_there s 632 i)

  -- of one message block no row past the first hundred
  row_short : length s ≡ 1024 → (i : ℕ) → 4 * min count 100 ≤ i → i < 508 → row_byte_at (rows_of s count) i ≡ 0
  row_short size i h q = go (dec_lt i (4 * min count 127))
    where
      go : Dec (i < 4 * min count 127) → row_byte_at (rows_of s count) i ≡ 0
      go (yes l) = row_second i (omega arith) l ∙ get_or-eq_default s 0 (omega arith)
      go (no l) = row_unused i (omega arith) q

  pub entries_put : (end : ℕ) (d y : List ℕ) → 1024 ≤ length s → end ≡ 4 * min count 16 → y ≡ filled d 19 (take (32 + end - 32) (drop 32 s)) 64 → 592 ≤ length d
      → Put 19 64 (entry_byte_at (entries_of s count)) d y
  entries_put end d y size is e long =
      part_put 19 32 end 64 _ s d y e (omega arith) (omega arith) (omega arith) (λ i q. sym (entry_used i (omega arith))) (λ i a b. sym (entry_unused i (omega arith) b))

  pub rows_put_short : (end : ℕ) (d y : List ℕ) → length s ≡ 1024 → end ≡ 4 * min count 100 → y ≡ filled d 83 (take (520 + end - 520) (drop 520 s)) 508 → 592 ≤ length d
      → Put 83 508 (row_byte_at (rows_of s count)) d y
  rows_put_short end d y size is e long =
      part_put 83 520 end 508 _ s d y e (omega arith) (omega arith) (omega arith) (λ i q. sym (row_first i (omega arith))) (λ i a b. sym (row_short size i (omega arith) b))

  pub rows_put_long : (end more : ℕ) (d x z : List ℕ) → 1536 ≤ length s → 100 ≤ count → end ≡ 4 * min count 100 → more ≡ 4 * min count 127 - end
      → x ≡ sets d 83 (take (520 + end - 520) (drop 520 s)) → z ≡ filled x (83 + end) (take (1032 + more - 1032) (drop 1032 s)) (508 - end) → 592 ≤ length d
      → Put 83 508 (row_byte_at (rows_of s count)) d z
  rows_put_long end more d x z size many is is2 e w long =
      let c : end ≡ 400 = omega arith in
      two_parts (row_byte_at (rows_of s count)) s more d x z size (omega arith) (rw c at e) (rw c at w) long (λ i q. sym (row_first i (omega arith)))
      (λ i q. let t : 632 + (400 + i) ≡ 1032 + i = omega arith in sym (row_second (400 + i) (omega arith) (omega arith) ∙ ap (byte s) t)) (λ i q r. sym (row_unused (400 + i) (omega arith) (omega arith)))

-- two message blocks have a hundred rows at least
pub many : (s : List ℕ) → (length s ≡ 1024 → ⊥) → 100 ≤ rowcount_of s
unfolding rowcount_of
many s n = rw (ne_eqb (length s) 1024 n) (omega arith)

-- a set's length in bytes, by what the code has tested
pub length_least : (s : List ℕ) → length_right s ≡ true → 1024 ≤ length s
unfolding length_right
length_least s e = go (eqb (length s) 1024) refl
  where
    go : (b : Bool) → eqb (length s) 1024 ≡ b → 1024 ≤ length s
    go true f = omega (arith, eqb-true (length s) 1024 f)
    go false f = omega (arith, eqb-true (length s) 1536 (rw f at e))
