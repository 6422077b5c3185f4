-- The record of a written set is the plan, with its unused places zero.
use Prim.Native.Nat.{ℕ, ◌+◌, ◌*◌, ◌-◌, ◌≤◌, ◌<◌}
use mathlib.Core.Path.{◌≡◌, refl, ap, ◌∙◌}
use mathlib.Core.Bool.{Bool, true, false}
use lib.ListN.{length}
use lib.Dec.{leb, ltb}
use native.Mathlib.Omega.{arith}
use borrow.Author.Tests.{eq-eqb, ne_eqb, leb-true, leb-false, ltb-true, ltb-false}
use Rattle.base_lists.specs.Bounded.{tab}
use Rattle.base_lists.proofs.Tables.{tab_ext}
use Rattle.base_bytes.specs.Bytes.{byte, number}
use Rattle.base_bytes.proofs.Halves.{from_halves}
use Rattle.set_plan.specs.declared.Plan.{Plan}
use Rattle.set_plan.specs.Record.{entry_at, row_at, used_entry, used_row, unused_zero}
use Rattle.set_record.specs.Entries.{times_from, entry_from, row_from, row_byte_at}
use Rattle.set_record.proofs.FourBytes.{entry_from_lem, row_from_lem}
use Rattle.set_reader.specs.Layout.{entry_of, entries_of, rowcount_of, row_place, row_of, rows_of, plan_of}
use Rattle.set_writer.specs.Write.{plan_head, rows_in_block, message_head, write_set}
use Rattle.set_writer.proofs.SetLengths.{block_count, length_short, length_long}
use Rattle.set_writer.proofs.SetBytes.{set_long, head_byte, node_byte, message_head_lem, message_row}

module _ (p : Plan) (few-nodes : p.nodecount ≤ 16) (few-rows : p.rowcount ≤ 127) where
  pub revision_back : number (write_set p) 2 ≡ p.revision
  unfolding plan_head
  revision_back = from_halves _ _ _ (head_byte p 2 (omega arith)) (head_byte p 3 (omega arith))

  pub nodecount_back : byte (write_set p) 4 ≡ p.nodecount
  unfolding plan_head
  nodecount_back = head_byte p 4 (omega arith)

  pub profile_back : byte (write_set p) 5 ≡ p.profile
  unfolding plan_head
  profile_back = head_byte p 5 (omega arith)

  pub times_back : times_from (write_set p) 6 ≡ p.times
  unfolding times_from plan_head
  times_back =
      λ i. record {
        window = from_halves _ _ _ (head_byte p 6 (omega arith)) (head_byte p 7 (omega arith)) i;
        stop = from_halves _ _ _ (head_byte p 8 (omega arith)) (head_byte p 9 (omega arith)) i;
        sleep = from_halves _ _ _ (head_byte p 10 (omega arith)) (head_byte p 11 (omega arith)) i;
        quiet = from_halves _ _ _ (head_byte p 12 (omega arith)) (head_byte p 13 (omega arith)) i;
        recovery = from_halves _ _ _ (head_byte p 14 (omega arith)) (head_byte p 15 (omega arith)) i;
        space = from_halves _ _ _ (head_byte p 16 (omega arith)) (head_byte p 17 (omega arith)) i;
        start = from_halves _ _ _ (head_byte p 18 (omega arith)) (head_byte p 19 (omega arith)) i;
      }

  pub rowcount_back : rowcount_of (write_set p) ≡ p.rowcount
  unfolding rowcount_of message_head rows_in_block
  rowcount_back = go (leb p.rowcount 100) refl
    where
      go : (b : Bool) → leb p.rowcount 100 ≡ b → rowcount_of (write_set p) ≡ p.rowcount
      go true e =
          let few : p.rowcount ≤ 100 = leb-true _ _ e in
          rw (eq-eqb (length (write_set p)) 1024 (set_long p ∙ length_short p.rowcount few)) (message_head_lem p 1 (omega arith) (rw e (omega arith)) 4 (omega arith) ∙ omega arith)
      go false e =
          let many : 100 < p.rowcount = leb-false _ _ e in
          let z : length (write_set p) ≡ 1536 = set_long p ∙ length_long p.rowcount many in
          rw (ne_eqb (length (write_set p)) 1024 (λ q. omega arith)) (ap (λ x. 100 + x) (message_head_lem p 2 (omega arith) (rw e (omega arith)) 4 (omega arith)) ∙ omega arith)

  entry_back : (k : ℕ) → k < p.nodecount → entry_from (write_set p) (32 + 4 * k) ≡ entry_at p.nodes k
  entry_back k h = entry_from_lem (write_set p) p.nodes (32 + 4 * k) k (λ m q.
      let o : 32 + 4 * k + m ≡ 32 + (4 * k + m) = omega arith in
      rw o (node_byte p (4 * k + m) (omega arith) few-nodes))

  pub nodes_back : entries_of (write_set p) (byte (write_set p) 4) ≡ tab 16 (used_entry p)
  unfolding entries_of entry_of used_entry
  nodes_back = rw nodecount_back (tab_ext 16 (entry_of (write_set p) p.nodecount) (used_entry p) (λ k h. go k (ltb k p.nodecount) refl))
    where
      go : (k : ℕ) (b : Bool) → ltb k p.nodecount ≡ b → entry_of (write_set p) p.nodecount k ≡ used_entry p k
      go k true e = rw e (entry_back k (ltb-true _ _ e))
      go k false e = rw e

  -- byte m of row j
  row_byte : (j m : ℕ) → j < p.rowcount → m < 4 → byte (write_set p) (row_place j + m) ≡ row_byte_at p.rows (4 * j + m)
  unfolding row_place rows_in_block
  row_byte j m h q = go (ltb j 100) refl (leb p.rowcount 100) refl
    where
      go : (a : Bool) → ltb j 100 ≡ a → (b : Bool) → leb p.rowcount 100 ≡ b → byte (write_set p) (row_place j + m) ≡ row_byte_at p.rows (4 * j + m)
      go true e b f =
          let near : j < 100 = ltb-true _ _ e in
          let o : 520 + 4 * j + m ≡ 512 * 1 + (8 + (4 * j + m)) = omega arith in
          let z : 400 * (1 - 1) + (4 * j + m) ≡ 4 * j + m = omega arith in
          rw (e, o) (message_row p 1 (omega arith) (early b f) (4 * j + m) (omega arith) (omega arith) ∙ ap (row_byte_at p.rows) z)
        where
          early : (b : Bool) → leb p.rowcount 100 ≡ b → 1 < block_count p.rowcount
          early true f = rw f (omega arith)
          early false f = rw f (omega arith)
      go false e true f = absurd (omega (arith, ltb-false j 100 e, leb-true p.rowcount 100 f))
      go false e false f =
          let far : 100 ≤ j = ltb-false _ _ e in
          let i = 4 * (j - 100) + m in
          let o : 632 + 4 * j + m ≡ 512 * 2 + (8 + i) = omega arith in
          let z : 400 * (2 - 1) + i ≡ 4 * j + m = omega arith in
          rw (e, o) (message_row p 2 (omega arith) (rw f (omega arith)) i (omega arith) (omega arith) ∙ ap (row_byte_at p.rows) z)

  row_back : (j : ℕ) → j < p.rowcount → row_from (write_set p) (row_place j) ≡ row_at p.rows j
  row_back j h = row_from_lem (write_set p) p.rows (row_place j) j (λ m q. row_byte j m h q)

  pub rows_back : rows_of (write_set p) (rowcount_of (write_set p)) ≡ tab 127 (used_row p)
  unfolding rows_of row_of used_row
  rows_back = rw rowcount_back (tab_ext 127 (row_of (write_set p) p.rowcount) (used_row p) (λ k h. go k (ltb k p.rowcount) refl))
    where
      go : (k : ℕ) (b : Bool) → ltb k p.rowcount ≡ b → row_of (write_set p) p.rowcount k ≡ used_row p k
      go k true e = rw e (row_back k (ltb-true _ _ e))
      go k false e = rw e

  pub plan_back : plan_of (write_set p) ≡ unused_zero p
  unfolding plan_of unused_zero
  plan_back = λ i. record { revision = revision_back i; profile = profile_back i; nodecount = nodecount_back i; times = times_back i; nodes = nodes_back i; rowcount = rowcount_back i; rows = rows_back i }
