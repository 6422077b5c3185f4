-- The bytes of a written set.
use Prim.Native.Nat.{ℕ, ◌+◌, ◌*◌, ◌-◌, ◌/◌, ◌%◌, ◌≤◌, ◌<◌}
use mathlib.Core.Path.{◌≡◌, refl, ◌∙◌}
use mathlib.Core.List.{List, ◌++◌}
use mathlib.Core.Bool.{Bool, true, false}
use lib.ListN.{length, get_or}
use lib.Dec.{leb}
use native.Mathlib.Omega.{arith}
use borrow.Author.Tests.{lt-ltb, le-ltb}
use Rattle.base_lists.specs.Bounded.{tab}
use Rattle.base_lists.proofs.Tables.{length-tab, get_or-tab}
use Rattle.base_bytes.specs.Bytes.{number}
use Rattle.base_bytes.specs.Check.{block_check}
use Rattle.set_plan.specs.declared.Plan.{Plan}
use Rattle.set_record.specs.Entries.{entry_byte_at, row_byte_at}
use Rattle.set_writer.specs.Write.{plan_head, plan_byte, rows_in_block, message_head, message_byte, data_byte, set_length, with_checks, write_set}
use Rattle.set_writer.proofs.Blocks.{in_head, in_fours, in_filler}
use Rattle.set_writer.proofs.SetLengths.{block_count, length_least, length_blocks}
use Rattle.set_writer.proofs.Checks.{first_checks, length_checks, checks_append, checks_data, checks_stored, check_kept_all}

module _ (p : Plan) where
  checks_are : (l : List ℕ) → with_checks p.rowcount l ≡ first_checks l (block_count p.rowcount)
  unfolding with_checks
  checks_are l = go (leb p.rowcount 100) refl
    where
      go : (b : Bool) → leb p.rowcount 100 ≡ b → with_checks p.rowcount l ≡ first_checks l (block_count p.rowcount)
      go true e = rw e
      go false e = rw e

  pub checks_front : (l r : List ℕ) → length l ≡ set_length p.rowcount → with_checks p.rowcount (l ++ r) ≡ with_checks p.rowcount l ++ r
  checks_front l r e = rw (checks_are (l ++ r), checks_are l) (checks_append l r (block_count p.rowcount) (omega (arith, length_blocks p.rowcount)))

  pub set_long : length (write_set p) ≡ set_length p.rowcount
  unfolding write_set
  set_long = rw (checks_are, length_checks) (length-tab (set_length p.rowcount) (data_byte p))

  -- a byte that is no part of a check
  pub set_data : (o : ℕ) → o < set_length p.rowcount → o % 512 < 510 → get_or (write_set p) o 0 ≡ data_byte p o
  unfolding write_set
  set_data o a b = rw checks_are (checks_data (tab (set_length p.rowcount) (data_byte p)) (block_count p.rowcount) o b ∙ get_or-tab (set_length p.rowcount) (data_byte p) o 0 a)

  -- each check is right
  pub set_check : (b : ℕ) → b < block_count p.rowcount → block_check (write_set p) (512 * b) ≡ number (write_set p) (512 * b + 510)
  unfolding write_set
  set_check b h =
      let l = tab (set_length p.rowcount) (data_byte p) in
      let w = checks_stored l (block_count p.rowcount) b h (omega (arith, length-tab (set_length p.rowcount) (data_byte p), length_blocks p.rowcount)) in
      let z : 512 * b + 510 + 1 ≡ 512 * b + 511 = omega arith in
      rw (checks_are, check_kept_all l (block_count p.rowcount) b, z, w.0, w.1) (omega arith)

  pub set_low : (b : ℕ) → b < block_count p.rowcount → get_or (write_set p) (512 * b + 511) 0 < 256
  unfolding write_set
  set_low b h =
      let l = tab (set_length p.rowcount) (data_byte p) in
      let w = checks_stored l (block_count p.rowcount) b h (omega (arith, length-tab (set_length p.rowcount) (data_byte p), length_blocks p.rowcount)) in
      rw (checks_are, w.1) (omega arith)

  plan-byte : (o : ℕ) → o < 510 → get_or (write_set p) o 0 ≡ plan_byte p o
  unfolding data_byte
  plan-byte o h = set_data o (omega (arith, length_least p.rowcount)) (omega arith) ∙ rw (lt-ltb o 512 (omega arith))

  pub head_byte : (o : ℕ) → o < 32 → get_or (write_set p) o 0 ≡ get_or (plan_head p) o 0
  unfolding plan_byte
  head_byte o h = plan-byte o (omega arith) ∙ in_head (plan_head p) 32 (entry_byte_at p.nodes) p.nodecount o h

  pub node_byte : (i : ℕ) → i < 4 * p.nodecount → p.nodecount ≤ 16 → get_or (write_set p) (32 + i) 0 ≡ entry_byte_at p.nodes i
  unfolding plan_byte
  node_byte i h m = plan-byte (32 + i) (omega arith) ∙ in_fours (plan_head p) 32 (entry_byte_at p.nodes) p.nodecount i h

  pub plan_filler : (o : ℕ) → 32 + 4 * p.nodecount ≤ o → o < 510 → get_or (write_set p) o 0 ≡ 0
  unfolding plan_byte
  plan_filler o h m = plan-byte o m ∙ in_filler (plan_head p) 32 (entry_byte_at p.nodes) p.nodecount o h

  -- a message block
  module _ (b : ℕ) (first : 1 ≤ b) (last : b < block_count p.rowcount) where
    message_byte_lem : (o : ℕ) → o < 510 → get_or (write_set p) (512 * b + o) 0 ≡ message_byte p b o
    unfolding data_byte
    message_byte_lem o h =
        let a : (512 * b + o) / 512 ≡ b = omega arith in
        let c : (512 * b + o) % 512 ≡ o = omega arith in
        set_data (512 * b + o) (omega (arith, length_blocks p.rowcount)) (omega arith) ∙ rw (le-ltb (512 * b + o) 512 (omega arith), a, c)

    pub message_head_lem : (o : ℕ) → o < 8 → get_or (write_set p) (512 * b + o) 0 ≡ get_or (message_head p.revision (rows_in_block p.rowcount b)) o 0
    unfolding message_byte
    message_head_lem o h = message_byte_lem o (omega arith) ∙ in_head (message_head p.revision (rows_in_block p.rowcount b)) 8 (λ i. row_byte_at p.rows (400 * (b - 1) + i)) (rows_in_block p.rowcount b) o h

    pub message_row : (i : ℕ) → i < 4 * rows_in_block p.rowcount b → rows_in_block p.rowcount b ≤ 100 → get_or (write_set p) (512 * b + (8 + i)) 0 ≡ row_byte_at p.rows (400 * (b - 1) + i)
    unfolding message_byte
    message_row i h m = message_byte_lem (8 + i) (omega arith) ∙ in_fours (message_head p.revision (rows_in_block p.rowcount b)) 8 (λ i. row_byte_at p.rows (400 * (b - 1) + i)) (rows_in_block p.rowcount b) i h

    pub message_filler : (o : ℕ) → 8 + 4 * rows_in_block p.rowcount b ≤ o → o < 510 → get_or (write_set p) (512 * b + o) 0 ≡ 0
    unfolding message_byte
    message_filler o h m = message_byte_lem o m ∙ in_filler (message_head p.revision (rows_in_block p.rowcount b)) 8 (λ i. row_byte_at p.rows (400 * (b - 1) + i)) (rows_in_block p.rowcount b) o h
