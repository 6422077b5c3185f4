-- An accepted set is the set of its record.
use Prim.Native.Nat.{ℕ, zero, suc, ◌+◌, ◌*◌, ◌-◌, ◌/◌, ◌%◌, ◌≤◌, ◌<◌, min}
use mathlib.Core.Path.{◌≡◌, refl, ap, sym, ◌∙◌}
use mathlib.Core.List.{List}
use mathlib.Core.Bool.{Bool, true, false, ◌&&◌, ◌||◌}
use mathlib.Core.Logic.{◌⊎◌, inl, inr, ⊎_elim}
use lib.ListN.{length, get_or}
use lib.Seq.{ext_get_or}
use lib.Dec.{leb, eqb}
use native.Mathlib.Omega.{arith}
use native.Mathlib.Decide.{dec_lt}
use borrow.Author.Tests.{lt-ltb, le-ltb, le-leb, lt-leb, ne_eqb, leb-true, eqb-true, eqb-false}
use Rattle.base_lists.specs.Bounded.{tab}
use Rattle.base_lists.proofs.AllAny.{all_at, and_l, and_r, halves}
use Rattle.base_lists.proofs.Tables.{get_or-tab}
use Rattle.base_bytes.specs.Bytes.{byte, number, high_byte, low_byte}
use Rattle.base_bytes.proofs.Halves.{high_at, low_at}
use Rattle.set_plan.specs.Rules.{between}
use Rattle.set_plan.proofs.Accepted.{Accepted, accepted, nodes_few, rows_few}
use Rattle.set_record.specs.Entries.{times_from, entry_byte_at, row_byte_at}
use Rattle.set_reader.specs.Layout.{one_message_block, rowcount_of, plan_of}
use Rattle.set_reader.specs.Rules.{each_block, length_right, check_right, checks_right, block_type, type_right, types_right, revision_same, revisions_same, counts_right, message_named, named, filler_at, filler_right}
use Rattle.set_reader.proofs.Accepted.{AcceptedSet}
use Rattle.set_writer.specs.Write.{plan_head, plan_byte, rows_in_block, message_head, message_byte, data_byte, set_length, write_set}
use Rattle.set_writer.proofs.Blocks.{block_is}
use Rattle.set_writer.proofs.SetLengths.{block_count, length_blocks}
use Rattle.set_writer.proofs.Checks.{check_ext}
use Rattle.set_reader.proofs.SetRecord.{entry_used, row_first, row_second}
use Rattle.set_writer.proofs.SetBytes.{set_long, set_data, set_check, set_low}

filler_at_lem : (s : List ℕ) → filler_right s ≡ true → (o : ℕ) → o < length s → (named s o || eqb (byte s o) 0) ≡ true
unfolding filler_right filler_at
filler_at_lem s e o h = all_at (filler_at s) (length s) e o h

-- the size of a right set and the rows that it says
record Short (s : List ℕ) : Type 0 where
  pub long : length s ≡ 1024
  pub count : (plan_of s).rowcount ≡ byte s 516
  pub few : byte s 516 ≤ 100
  pub blocks : block_count (plan_of s).rowcount ≡ 2

record Long (s : List ℕ) : Type 0 where
  pub long : length s ≡ 1536
  pub count : (plan_of s).rowcount ≡ 100 + byte s 1028
  pub full : byte s 516 ≡ 100
  pub some : 1 ≤ byte s 1028
  pub blocks : block_count (plan_of s).rowcount ≡ 3

module _ (s : List ℕ) (r : AcceptedSet s) where
  kept : Accepted (plan_of s)
  kept = accepted (plan_of s) r.plan

  size_of : Short s ⊎ Long s
  unfolding length_right counts_right plan_of rowcount_of
  size_of = go (eqb (length s) 1024) refl r.size r.counts
    where
      go : (b : Bool) → eqb (length s) 1024 ≡ b → (b || eqb (length s) 1536) ≡ true
          → (between 1 100 (byte s 516) && (b || eqb (byte s 516) 100 && between 1 100 (byte s 1028))) ≡ true → Short s ⊎ Long s
      go true e u v =
          let few : byte s 516 ≤ 100 = search halves in
          let c : (plan_of s).rowcount ≡ byte s 516 = rw e in
          inl (record { long = eqb-true _ _ e; count = c; few = few; blocks = rw (c, le-leb _ _ few) })
      go false e u v =
          let w : (eqb (byte s 516) 100 && between 1 100 (byte s 1028)) ≡ true = and_r (between 1 100 (byte s 516)) (eqb (byte s 516) 100 && between 1 100 (byte s 1028)) v in
          let full : byte s 516 ≡ 100 = eqb-true (byte s 516) 100 (and_l (eqb (byte s 516) 100) (between 1 100 (byte s 1028)) w) in
          let i : between 1 100 (byte s 1028) ≡ true = and_r (eqb (byte s 516) 100) (between 1 100 (byte s 1028)) w in
          let some : 1 ≤ byte s 1028 = leb-true 1 (byte s 1028) (and_l (leb 1 (byte s 1028)) (leb (byte s 1028) 100) i) in
          let c : (plan_of s).rowcount ≡ 100 + byte s 1028 = rw e in
          inr (record { long = eqb-true _ _ u; count = c; full = full; some = some; blocks = rw (c, lt-leb (100 + byte s 1028) 100 (omega arith)) })

  blocks_long : length s ≡ 512 * block_count (plan_of s).rowcount
  blocks_long = ⊎_elim (λ (w : Short s). omega arith) (λ (w : Long s). omega arith) size_of

  -- a rule of each block, at a block of the set
  at_block : (f : ℕ → Bool) → each_block s f ≡ true → (b : ℕ) → b < block_count (plan_of s).rowcount → f b ≡ true
  at_block f e zero h = and_l (f 0) (f 1) (and_l (f 0 && f 1) (one_message_block s || f 2) e)
  at_block f e (suc zero) h = and_r (f 0) (f 1) (and_l (f 0 && f 1) (one_message_block s || f 2) e)
  at_block f e (suc (suc zero)) h = ⊎_elim (λ (w : Short s). absurd (omega arith)) (λ (w : Long s). go w (and_r (f 0 && f 1) (one_message_block s || f 2) e)) size_of
    where
      go : Long s → (one_message_block s || f 2) ≡ true → f 2 ≡ true
      go w q = rw (ne_eqb (length s) 1024 (λ z. omega arith)) at q
  at_block f e (suc (suc (suc b))) h = absurd (⊎_elim (λ (w : Short s). omega arith) (λ (w : Long s). omega arith) size_of)

  -- bytes with no name
  no_name : (o : ℕ) → o < length s → named s o ≡ false → byte s o ≡ 0
  no_name o h e = eqb-true _ _ (go (named s o) e (at_filler o h))
    where
      at_filler : (o : ℕ) → o < length s → (named s o || eqb (byte s o) 0) ≡ true
      at_filler o h = filler_at_lem s r.filler o h

      go : (b : Bool) → b ≡ false → (b || eqb (byte s o) 0) ≡ true → eqb (byte s o) 0 ≡ true
      go true q w = let z : ◌≡◌ {A = ℕ} 0 1 = cc in absurd (omega arith)
      go false q w = w

  -- each byte of the plan block
  module _ (bytes : (o : ℕ) → byte s o < 256) where
    long_enough : 1024 ≤ length s
    long_enough = ⊎_elim (λ (w : Short s). omega arith) (λ (w : Long s). omega arith) size_of

    type_of : (b : ℕ) → b < block_count (plan_of s).rowcount → (byte s (512 * b) ≡ block_type b) × (byte s (512 * b + 1) ≡ 1)
    unfolding types_right type_right
    type_of b h =
        let e = at_block (type_right s) r.types b h in
        (eqb-true _ _ (and_l (eqb (byte s (512 * b)) (block_type b)) (eqb (byte s (512 * b + 1)) 1) e), eqb-true _ _ (and_r (eqb (byte s (512 * b)) (block_type b)) (eqb (byte s (512 * b + 1)) 1) e))

    first : 0 < block_count (plan_of s).rowcount
    first = omega (arith, blocks_long, long_enough)

    zero_at : (o : ℕ) → o < 1024 → named s o ≡ false → byte s o ≡ 0
    zero_at o h e = no_name o (omega (arith, long_enough)) e

    high_byte_lem : (o : ℕ) → high_byte (number s o) ≡ byte s o
    high_byte_lem o = high_at s o (bytes (o + 1))

    low_byte_lem : (o : ℕ) → low_byte (number s o) ≡ byte s (o + 1)
    low_byte_lem o = low_at s o (bytes (o + 1))

    head_is : plan_head (plan_of s) ≡ tab 32 (byte s)
    unfolding plan_head plan_of times_from tab named block_type
    head_is =
        let m = type_of 0 first in
        cc (
          m.0,
          m.1,
          high_byte_lem 2,
          low_byte_lem 2,
          high_byte_lem 6,
          low_byte_lem 6,
          high_byte_lem 8,
          low_byte_lem 8,
          high_byte_lem 10,
          low_byte_lem 10,
          high_byte_lem 12,
          low_byte_lem 12,
          high_byte_lem 14,
          low_byte_lem 14,
          high_byte_lem 16,
          low_byte_lem 16,
          high_byte_lem 18,
          low_byte_lem 18,
          zero_at 20 (omega arith) refl,
          zero_at 21 (omega arith) refl,
          zero_at 22 (omega arith) refl,
          zero_at 23 (omega arith) refl,
          zero_at 24 (omega arith) refl,
          zero_at 25 (omega arith) refl,
          zero_at 26 (omega arith) refl,
          zero_at 27 (omega arith) refl,
          zero_at 28 (omega arith) refl,
          zero_at 29 (omega arith) refl,
          zero_at 30 (omega arith) refl,
          zero_at 31 (omega arith) refl,
        )

    nodes_bound : byte s 4 ≤ 16
    unfolding plan_of
    nodes_bound = nodes_few (plan_of s) kept.nodes

    no_plan_name : (o : ℕ) → 32 + 4 * byte s 4 ≤ o → o < 510 → named s o ≡ false
    unfolding named
    no_plan_name o a b = rw (lt-ltb o 512 (omega arith), le-ltb o 20 (omega arith), le-leb 32 o (omega arith), le-ltb o (32 + 4 * byte s 4) a, lt-leb 510 o b)

    plan_data : (o : ℕ) → o < 510 → plan_byte (plan_of s) o ≡ byte s o
    unfolding plan_byte plan_of
    plan_data = block_is (plan_head (plan_of s)) 32 (entry_byte_at (plan_of s).nodes) (byte s 4) (byte s) 510
        (λ o h. ap (λ l. get_or l o 0) head_is ∙ get_or-tab 32 (byte s) o 0 h)
        (λ i h. entry_used s (byte s 4) i (omega (arith, nodes_bound)))
        (λ o a b. sym (zero_at o (omega arith) (no_plan_name o a b)))

    -- a message block
    module _ (b : ℕ) (low : 1 ≤ b) (high : b < block_count (plan_of s).rowcount) where
      rows_is : (rows_in_block (plan_of s).rowcount b ≡ byte s (512 * b + 4)) × (byte s (512 * b + 4) ≤ 100)
      unfolding rows_in_block
      rows_is = ⊎_elim short_set long_set size_of
        where
          short_set : Short s → (rows_in_block (plan_of s).rowcount b ≡ byte s (512 * b + 4)) × (byte s (512 * b + 4) ≤ 100)
          short_set w =
              let e : b ≡ 1 = omega arith in
              rw (e, w.count) (omega arith, w.few)

          long_set : Long s → (rows_in_block (plan_of s).rowcount b ≡ byte s (512 * b + 4)) × (byte s (512 * b + 4) ≤ 100)
          long_set w = go (eqb b 1) refl
            where
              go : (c : Bool) → eqb b 1 ≡ c → (rows_in_block (plan_of s).rowcount b ≡ byte s (512 * b + 4)) × (byte s (512 * b + 4) ≤ 100)
              go true u =
                  let e : b ≡ 1 = eqb-true _ _ u in
                  rw (e, w.count) (omega arith, omega arith)
              go false u =
                  let v : b ≡ 1 → ⊥ = eqb-false b 1 u in
                  let e : b ≡ 2 = omega arith in
                  let m : (plan_of s).rowcount ≤ 127 = rows_few (plan_of s) kept.rows in
                  rw (e, w.count) (omega arith, omega arith)

      in_set : (o : ℕ) → o < 512 → 512 * b + o < length s
      in_set o q = omega (arith, blocks_long)

      name_is : (o : ℕ) → o < 512 → named s (512 * b + o) ≡ message_named (byte s (512 * b + 4)) o
      unfolding named
      name_is o q =
          let x : (512 * b + o) / 512 ≡ b = omega arith in
          let y : (512 * b + o) % 512 ≡ o = omega arith in
          rw (le-ltb (512 * b + o) 512 (omega arith), x, y)

      blank : (o : ℕ) → o < 512 → message_named (byte s (512 * b + 4)) o ≡ false → byte s (512 * b + o) ≡ 0
      blank o q e = no_name (512 * b + o) (in_set o q) (name_is o q ∙ e)

      same_revision : number s (512 * b + 2) ≡ number s 2
      unfolding revisions_same revision_same
      same_revision = eqb-true _ _ (at_block (revision_same s) r.revisions b high)

      message_head_is : message_head (plan_of s).revision (byte s (512 * b + 4)) ≡ tab 8 (λ i. byte s (512 * b + i))
      unfolding message_head plan_of tab block_type
      message_head_is =
          let m = type_of b high in
          let z : 512 * b + 0 ≡ 512 * b = omega arith in
          let y : 512 * b + 2 + 1 ≡ 512 * b + 3 = omega arith in
          let k : block_type b ≡ 0x4d = rw (ne_eqb b 0 (λ e. omega arith)) in
          let a : high_byte (number s 2) ≡ byte s (512 * b + 2) = ap high_byte (sym same_revision) ∙ high_byte_lem (512 * b + 2) in
          let c : low_byte (number s 2) ≡ byte s (512 * b + 3) = ap low_byte (sym same_revision) ∙ low_byte_lem (512 * b + 2) ∙ ap (byte s) y in
          let d : byte s (512 * b + 0) ≡ 0x4d = ap (byte s) z ∙ m.0 ∙ k in
          cc (d, m.1, a, c, blank 5 (omega arith) refl, blank 6 (omega arith) refl, blank 7 (omega arith) refl)

      row_is : (i : ℕ) → i < 4 * byte s (512 * b + 4) → row_byte_at (plan_of s).rows (400 * (b - 1) + i) ≡ byte s (512 * b + (8 + i))
      unfolding plan_of
      row_is i q = ⊎_elim short_set long_set size_of
        where
          near : b ≡ 1 → i < 4 * min (rowcount_of s) 100 → row_byte_at (plan_of s).rows (400 * (b - 1) + i) ≡ byte s (512 * b + (8 + i))
          near e h = row_first s (rowcount_of s) (400 * (b - 1) + i) (omega arith) ∙ ap (byte s) (omega arith)

          short_set : Short s → row_byte_at (plan_of s).rows (400 * (b - 1) + i) ≡ byte s (512 * b + (8 + i))
          short_set w =
              let e : b ≡ 1 = omega arith in
              let f : byte s (512 * b + 4) ≡ byte s 516 = ap (byte s) (omega arith) in
              let c : rowcount_of s ≡ byte s 516 = w.count in
              near e (omega (arith, w.few))

          long_set : Long s → row_byte_at (plan_of s).rows (400 * (b - 1) + i) ≡ byte s (512 * b + (8 + i))
          long_set w = go (eqb b 1) refl
            where
              c : rowcount_of s ≡ 100 + byte s 1028
              c = w.count

              go : (x : Bool) → eqb b 1 ≡ x → row_byte_at (plan_of s).rows (400 * (b - 1) + i) ≡ byte s (512 * b + (8 + i))
              go true u =
                  let e : b ≡ 1 = eqb-true _ _ u in
                  let f : byte s (512 * b + 4) ≡ byte s 516 = ap (byte s) (omega arith) in
                  near e (omega (arith, c, w.full))
              go false u =
                  let v : b ≡ 1 → ⊥ = eqb-false b 1 u in
                  let e : b ≡ 2 = omega arith in
                  let f : byte s (512 * b + 4) ≡ byte s 1028 = ap (byte s) (omega arith) in
                  let m : rowcount_of s ≤ 127 = rows_few (plan_of s) kept.rows in
                  row_second s (rowcount_of s) (400 * (b - 1) + i) (omega arith) (omega (arith, c)) ∙ ap (byte s) (omega arith)

      message_data : (o : ℕ) → o < 510 → message_byte (plan_of s) b o ≡ byte s (512 * b + o)
      unfolding message_byte
      message_data = rw rows_is.0 (block_is (message_head (plan_of s).revision (byte s (512 * b + 4))) 8 (λ i. row_byte_at (plan_of s).rows (400 * (b - 1) + i)) (byte s (512 * b + 4)) (λ o. byte s (512 * b + o)) 510
          (λ o h. ap (λ l. get_or l o 0) message_head_is ∙ get_or-tab 8 (λ i. byte s (512 * b + i)) o 0 h) row_is
          (λ o a q. sym (blank o (omega arith) (rw (le-ltb o 5 (omega arith), le-leb 8 o (omega arith), le-ltb o (8 + 4 * byte s (512 * b + 4)) a, lt-leb 510 o q)))))

    set_length_is : set_length (plan_of s).rowcount ≡ length s
    set_length_is = length_blocks (plan_of s).rowcount ∙ sym blocks_long

    -- every byte that is no part of a check
    data_is : (o : ℕ) → o < length s → o % 512 < 510 → data_byte (plan_of s) o ≡ byte s o
    unfolding data_byte
    data_is o a q = go (dec_lt o 512)
      where
        go : Dec (o < 512) → data_byte (plan_of s) o ≡ byte s o
        go (yes u) = rw (lt-ltb o 512 u) (plan_data o (omega arith))
        go (no u) =
            let z : 512 * (o / 512) + o % 512 ≡ o = omega arith in
            rw (le-ltb o 512 (omega arith)) (message_data (o / 512) (omega arith) (omega (arith, blocks_long)) (o % 512) q ∙ ap (byte s) z)

    back_data : (o : ℕ) → o < length s → o % 512 < 510 → byte (write_set (plan_of s)) o ≡ byte s o
    back_data o a q = set_data (plan_of s) o (omega (arith, set_length_is)) q ∙ data_is o a q

    back_check : (b : ℕ) → b < block_count (plan_of s).rowcount → number (write_set (plan_of s)) (512 * b + 510) ≡ number s (512 * b + 510)
    unfolding checks_right check_right
    back_check b q =
        sym (set_check (plan_of s) b q)
        ∙ check_ext (write_set (plan_of s)) s (512 * b) (λ i w. back_data (512 * b + i) (omega (arith, blocks_long)) (omega arith))
        ∙ eqb-true _ _ (at_block (check_right s) r.checks b q)

    -- both bytes of a check
    back_seal : (b : ℕ) → b < block_count (plan_of s).rowcount → (byte (write_set (plan_of s)) (512 * b + 510) ≡ byte s (512 * b + 510)) × (byte (write_set (plan_of s)) (512 * b + 511) ≡ byte s (512 * b + 511))
    back_seal b q =
        let z : 512 * b + 510 + 1 ≡ 512 * b + 511 = omega arith in
        let e : byte (write_set (plan_of s)) (512 * b + 510) * 256 + byte (write_set (plan_of s)) (512 * b + 511) ≡ byte s (512 * b + 510) * 256 + byte s (512 * b + 511) = rw z at (back_check b q) in
        omega (arith, e, set_low (plan_of s) b q, bytes (512 * b + 511))

    back_byte : (o : ℕ) → o < length s → byte (write_set (plan_of s)) o ≡ byte s o
    back_byte o a = go (dec_lt (o % 512) 510) (dec_lt (o % 512) 511)
      where
        b : ℕ
        b = o / 512

        inside : o / 512 < block_count (plan_of s).rowcount
        inside = omega (arith, blocks_long)

        go : Dec (o % 512 < 510) → Dec (o % 512 < 511) → byte (write_set (plan_of s)) o ≡ byte s o
        go (yes u) v = back_data o a u
        go (no u) (yes v) = let z : o ≡ 512 * (o / 512) + 510 = omega arith in rw z (back_seal (o / 512) inside).0
        go (no u) (no v) = let z : o ≡ 512 * (o / 512) + 511 = omega arith in rw z (back_seal (o / 512) inside).1

    pub same_set : write_set (plan_of s) ≡ s
    same_set = ext_get_or 0 (write_set (plan_of s)) s (set_long (plan_of s) ∙ set_length_is) (λ o q. back_byte o (omega (arith, set_long (plan_of s), set_length_is)))
