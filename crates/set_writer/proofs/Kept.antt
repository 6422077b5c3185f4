-- A written set keeps the rules that only bytes show.
use Prim.Native.Nat.{ℕ, zero, suc, ◌+◌, ◌*◌, ◌-◌, ◌/◌, ◌%◌, ◌≤◌, ◌<◌, min}
use mathlib.Core.Path.{◌≡◌, refl, ap, sym, ◌∙◌}
use mathlib.Core.List.{List, [], ◌∷◌, ◌++◌}
use mathlib.Core.Bool.{Bool, true, false, ◌||◌, or-true}
use mathlib.Core.Logic.{◌⊎◌, inl, inr, ⊎_elim}
use lib.ListN.{length, get_or, replicate, get_or-replicate}
use lib.Seq.{get_or-append-add}
use lib.Dec.{leb, eqb}
use native.Mathlib.Omega.{arith}
use native.Mathlib.Decide.{dec_lt}
use borrow.Author.Tests.{lt-ltb, le-ltb, le-leb, eq-eqb, ne_eqb, leb-true, leb-false}
use Rattle.base_lists.proofs.AllAny.{all_intro}
use Rattle.base_bytes.specs.Bytes.{byte, number, two_bytes}
use Rattle.set_plan.specs.declared.Plan.{Plan}
use Rattle.set_reader.specs.Rules.{each_block, length_right, check_right, checks_right, block_type, type_right, types_right, revision_same, revisions_same, counts_right, block_named, plan_named, message_named, named, filler_at, filler_right}
use Rattle.set_writer.specs.Write.{plan_head, rows_in_block, message_head, set_length, write_set}
use Rattle.set_writer.proofs.SetLengths.{block_count, length_short, length_long, length_blocks}
use Rattle.set_writer.proofs.SetBytes.{set_long, set_check, head_byte, plan_filler, message_head_lem, message_filler}
use Rattle.set_writer.proofs.ReadBack.{nodecount_back}

module _ (p : Plan) (few-nodes : p.nodecount ≤ 16) (some : 1 ≤ p.rowcount) (few-rows : p.rowcount ≤ 127) where
  -- the set is short and has two blocks, or is long and has three
  size : ((eqb (length (write_set p)) 1024 ≡ true) × (block_count p.rowcount ≡ 2) × (p.rowcount ≤ 100)) ⊎ ((length (write_set p) ≡ 1536) × (eqb (length (write_set p)) 1024 ≡ false) × (block_count p.rowcount ≡ 3) × (100 < p.rowcount))
  size = go (leb p.rowcount 100) refl
    where
      go : (b : Bool) → leb p.rowcount 100 ≡ b
          → ((eqb (length (write_set p)) 1024 ≡ true) × (block_count p.rowcount ≡ 2) × (p.rowcount ≤ 100)) ⊎ ((length (write_set p) ≡ 1536) × (eqb (length (write_set p)) 1024 ≡ false) × (block_count p.rowcount ≡ 3) × (100 < p.rowcount))
      go true e = let few : p.rowcount ≤ 100 = leb-true _ _ e in inl (eq-eqb _ _ (set_long p ∙ length_short p.rowcount few), rw e, few)
      go false e =
          let many : 100 < p.rowcount = leb-false _ _ e in
          let z : length (write_set p) ≡ 1536 = set_long p ∙ length_long p.rowcount many in
          inr (z, ne_eqb (length (write_set p)) 1024 (λ q. omega arith), rw e, many)

  two_blocks : 2 ≤ block_count p.rowcount
  two_blocks = ⊎_elim (λ w. omega arith) (λ w. omega arith) size

  -- a test that holds of each block of the set
  each : (f : ℕ → Bool) → ((b : ℕ) → b < block_count p.rowcount → f b ≡ true) → each_block (write_set p) f ≡ true
  each f h =
      ⊎_elim (λ w. rw (h 0 (omega (arith, two_blocks)), h 1 (omega (arith, two_blocks)), w.0))
      (λ w. rw (h 0 (omega (arith, two_blocks)), h 1 (omega (arith, two_blocks)), w.1, h 2 (omega arith))) size

  pub length_kept : length_right (write_set p) ≡ true
  unfolding length_right
  length_kept = ⊎_elim (λ w. rw w.0) (λ w. rw (w.1, w.0)) size

  pub checks_kept : checks_right (write_set p) ≡ true
  unfolding checks_right check_right
  checks_kept = each (check_right (write_set p)) (λ b h. eq-eqb _ _ (set_check p b h))

  -- bytes 0 to 3 of any block
  start : (b : ℕ) → b < block_count p.rowcount → (byte (write_set p) (512 * b) ≡ block_type b) × (byte (write_set p) (512 * b + 1) ≡ 1) × (number (write_set p) (512 * b + 2) ≡ p.revision)
  unfolding block_type plan_head message_head
  start zero h = (head_byte p 0 (omega arith), head_byte p 1 (omega arith), rw (head_byte p 2 (omega arith), head_byte p 3 (omega arith)) (omega arith))
  start (suc b) h =
      let at = message_head_lem p (suc b) (omega arith) h in
      let z : 512 * suc b + 0 ≡ 512 * suc b = omega arith in
      let y : 512 * suc b + 2 + 1 ≡ 512 * suc b + 3 = omega arith in
      (rw (ne_eqb (suc b) 0 (λ e. omega arith)) (rw z at (at 0 (omega arith))), at 1 (omega arith), rw (y, at 2 (omega arith), at 3 (omega arith)) (omega arith))

  pub types_kept : types_right (write_set p) ≡ true
  unfolding types_right type_right
  types_kept = each (type_right (write_set p)) (λ b h. rw (eq-eqb _ _ (start b h).0, eq-eqb _ _ (start b h).1))

  pub revisions_kept : revisions_same (write_set p) ≡ true
  unfolding revisions_same revision_same
  revisions_kept = each (revision_same (write_set p)) (λ b h. eq-eqb _ _ ((start b h).2 ∙ sym (start 0 (omega (arith, two_blocks))).2))

  pub counts_kept : counts_right (write_set p) ≡ true
  unfolding counts_right message_head rows_in_block
  counts_kept =
      let c1 : byte (write_set p) 516 ≡ min p.rowcount 100 = message_head_lem p 1 (omega arith) (omega (arith, two_blocks)) 4 (omega arith) in
      ⊎_elim (λ w. rw (c1, w.0, le-leb 1 (min p.rowcount 100) (omega arith), le-leb (min p.rowcount 100) 100 (omega arith)))
      (λ w.
      let c2 : byte (write_set p) 1028 ≡ p.rowcount - 100 = message_head_lem p 2 (omega arith) (omega arith) 4 (omega arith) in
      rw (c1, c2, w.1, le-leb 1 (min p.rowcount 100) (omega arith), le-leb (min p.rowcount 100) 100 (omega arith), eq-eqb (min p.rowcount 100) 100 (omega arith), le-leb 1 (p.rowcount - 100) (omega arith), le-leb (p.rowcount - 100) 100 (omega arith)))
      size

  -- filler

  -- bytes 20 to 31 of the plan block
  head_filler : (i : ℕ) → i < 12 → byte (write_set p) (20 + i) ≡ 0
  unfolding plan_head
  head_filler i h = head_byte p (20 + i) (omega arith) ∙ get_or-append-add (front p) (replicate 12 0) i 0 ∙ get_or-replicate 12 i 0 0 h
    where
      front : Plan → List ℕ
      front q =
          0x50 ∷ 1 ∷ two_bytes q.revision ++ q.nodecount ∷ q.profile ∷ two_bytes q.times.window ++ two_bytes q.times.stop ++ two_bytes q.times.sleep
          ++ two_bytes q.times.quiet ++ two_bytes q.times.recovery ++ two_bytes q.times.space ++ two_bytes q.times.start

  -- a byte that has no name is 0
  named_kept : (g : ℕ → ℕ) (head from count : ℕ) → ((o : ℕ) → head ≤ o → o < from → g o ≡ 0) → ((o : ℕ) → from + 4 * count ≤ o → o < 510 → g o ≡ 0)
      → (o : ℕ) → (block_named head from count o || eqb (g o) 0) ≡ true
  named_kept g head from count gap filler o = go (dec_lt o head) (dec_lt o from) (dec_lt o (from + 4 * count)) (dec_lt o 510)
    where
      zero_byte : g o ≡ 0 → (block_named head from count o || eqb (g o) 0) ≡ true
      zero_byte e = rw (eq-eqb (g o) 0 e) (or-true (block_named head from count o))

      go : Dec (o < head) → Dec (o < from) → Dec (o < from + 4 * count) → Dec (o < 510) → (block_named head from count o || eqb (g o) 0) ≡ true
      go (yes a) b c d = rw (lt-ltb o head a)
      go (no a) (yes b) c d = zero_byte (gap o (omega arith) b)
      go (no a) (no b) (yes c) d = rw (le-ltb o head (omega arith), le-leb from o (omega arith), lt-ltb o (from + 4 * count) c)
      go (no a) (no b) (no c) (yes d) = zero_byte (filler o (omega arith) d)
      go (no a) (no b) (no c) (no d) = rw (le-leb 510 o (omega arith), or-true)

  plan-named : (o : ℕ) → (plan_named p.nodecount o || eqb (byte (write_set p) o) 0) ≡ true
  plan-named = named_kept (byte (write_set p)) 20 32 p.nodecount (λ o a b. let e : o ≡ 20 + (o - 20) = omega arith in ap (byte (write_set p)) e ∙ head_filler (o - 20) (omega arith)) (plan_filler p)

  message_named_lem : (b o : ℕ) → 1 ≤ b → b < block_count p.rowcount → (message_named (rows_in_block p.rowcount b) o || eqb (byte (write_set p) (512 * b + o)) 0) ≡ true
  unfolding message_head
  message_named_lem b o x y = named_kept (λ o. byte (write_set p) (512 * b + o)) 5 8 (rows_in_block p.rowcount b) (λ o a c.
      let z : o ≡ 5 + (o - 5) = omega arith in
      message_head_lem p b x y o c ∙ ap (λ i. get_or (message_head p.revision (rows_in_block p.rowcount b)) i 0) z
      ∙ get_or-append-add (0x4d ∷ 1 ∷ two_bytes p.revision ++ rows_in_block p.rowcount b ∷ []) (replicate 3 0) (o - 5) 0 ∙ get_or-replicate 3 (o - 5) 0 0 (omega arith)) (message_filler p b x y) o

  filler_at_lem : (o : ℕ) → o < set_length p.rowcount → filler_at (write_set p) o ≡ true
  unfolding filler_at named message_head
  filler_at_lem o h = go (dec_lt o 512)
    where
      go : Dec (o < 512) → filler_at (write_set p) o ≡ true
      go (yes a) = rw (lt-ltb o 512 a, nodecount_back p few-nodes few-rows) (plan-named o)
      go (no a) =
          let b = o / 512 in
          let x : 1 ≤ b = omega arith in
          let y : b < block_count p.rowcount = omega (arith, length_blocks p.rowcount) in
          let z : o ≡ 512 * b + o % 512 = omega arith in
          rw (le-ltb o 512 (omega arith), message_head_lem p b x y 4 (omega arith))
          (ap (λ k. message_named (rows_in_block p.rowcount b) (o % 512) || eqb (byte (write_set p) k) 0) z ∙ message_named_lem b (o % 512) x y)

  pub filler_kept : filler_right (write_set p) ≡ true
  unfolding filler_right
  filler_kept = all_intro (filler_at (write_set p)) (length (write_set p)) (λ o h. filler_at_lem o (omega (arith, set_long p)))
