-- "The writer ignores unused places of its record".
use Prim.Native.Nat.{ℕ, ◌+◌, ◌*◌, ◌-◌, ◌/◌, ◌%◌, ◌≤◌, ◌<◌, min}
use mathlib.Core.Path.{◌≡◌, refl, ap}
use mathlib.Core.List.{List, ◌++◌}
use mathlib.Core.Bool.{Bool, true, false}
use lib.ListN.{length, get_or, drop}
use lib.Dec.{eqb}
use native.Mathlib.Omega.{arith}
use native.Mathlib.Decide.{dec_lt}
use borrow.Author.Tests.{lt-ltb, le-ltb, eqb-true, eqb-false}
use Rattle.base_lists.specs.Bounded.{if_else}
use Rattle.base_lists.proofs.Tables.{tab_ext}
use Rattle.set_plan.specs.declared.NodeEntry.{NodeEntry}
use Rattle.set_plan.specs.declared.Row.{Row}
use Rattle.set_plan.specs.declared.Plan.{Plan}
use Rattle.set_plan.specs.Record.{unused_zero}
use Rattle.set_plan.specs.Rules.{plan_refusal}
use Rattle.set_plan.proofs.Accepted.{accepted, nodes_few, rows_few}
use Rattle.set_plan.proofs.Unused.{entry_same, row_same, unused_refusal}
use Rattle.set_record.specs.Entries.{entry_bytes, entry_byte_at, row_bytes, row_byte_at}
use Rattle.set_writer.specs.Write.{plan_head, plan_byte, rows_in_block, message_head, message_byte, data_byte, set_length, with_checks, write_set, write_refusal, written}
use Rattle.set_writer.proofs.Blocks.{block_same}
use Rattle.set_writer.proofs.SetLengths.{length_least}
use Rattle.set_writer.proofs.Refusals.{room}

module _ (p : Plan) where
  module _ (few-nodes : p.nodecount ≤ 16) (few-rows : p.rowcount ≤ 127) where
    plan-same : (o : ℕ) → plan_byte (unused_zero p) o ≡ plan_byte p o
    unfolding plan_byte plan_head unused_zero
    plan-same o = block_same (plan_head p) 32 (entry_byte_at (unused_zero p).nodes) (entry_byte_at p.nodes) p.nodecount
        (λ i h. ap (λ (e : NodeEntry). get_or (entry_bytes e) (i % 4) 0) (entry_same p (i / 4) (omega arith) (omega arith))) o

    -- a row of message block b is one of the rows in use
    used : (b i : ℕ) → 1 ≤ b → b < 3 → i < 4 * rows_in_block p.rowcount b → (400 * (b - 1) + i) / 4 < p.rowcount
    unfolding rows_in_block
    used b i x y h = go (eqb b 1) refl
      where
        go : (c : Bool) → eqb b 1 ≡ c → (400 * (b - 1) + i) / 4 < p.rowcount
        go true e =
            let z : b ≡ 1 = eqb-true _ _ e in
            let q : i < 4 * min p.rowcount 100 = rw e at h in
            omega arith
        go false e =
            let n : b ≡ 1 → ⊥ = eqb-false b 1 e in
            let z : b ≡ 2 = omega arith in
            let q : i < 4 * (p.rowcount - 100) = rw e at h in
            omega arith

    message_same : (b o : ℕ) → 1 ≤ b → b < 3 → message_byte (unused_zero p) b o ≡ message_byte p b o
    unfolding message_byte unused_zero
    message_same b o x y = block_same (message_head p.revision (rows_in_block p.rowcount b)) 8
        (λ i. row_byte_at (unused_zero p).rows (400 * (b - 1) + i)) (λ i. row_byte_at p.rows (400 * (b - 1) + i)) (rows_in_block p.rowcount b)
        (λ i h. ap (λ (r : Row). get_or (row_bytes r) ((400 * (b - 1) + i) % 4) 0) (row_same p ((400 * (b - 1) + i) / 4) (omega (arith, used b i x y h)) (used b i x y h))) o

    data_same : (o : ℕ) → o < 1536 → data_byte (unused_zero p) o ≡ data_byte p o
    unfolding data_byte
    data_same o h = go (dec_lt o 512)
      where
        go : Dec (o < 512) → data_byte (unused_zero p) o ≡ data_byte p o
        go (yes a) = rw (lt-ltb o 512 a) (plan-same o)
        go (no a) = rw (le-ltb o 512 (omega arith)) (message_same (o / 512) (o % 512) (omega arith) (omega arith))

  refusal_same : (room : ℕ) → write_refusal (unused_zero p) room ≡ write_refusal p room
  unfolding write_refusal unused_zero
  refusal_same room = rw (unused_refusal p)

  set_same : plan_refusal p ≡ 0 → write_set (unused_zero p) ≡ write_set p
  unfolding write_set unused_zero
  set_same e =
      let a = accepted p e in
      ap (with_checks p.rowcount)
      (tab_ext (set_length p.rowcount) (data_byte (unused_zero p)) (data_byte p)
      (λ o h. data_same (nodes_few p a.nodes) (rows_few p a.rows) o (omega (arith, length_least p.rowcount))))

  -- the buffer is the same with every unused place zero
  pub unused_ignored : (buffer : List ℕ) → written (unused_zero p) buffer ≡ written p buffer
  unfolding written unused_zero
  unused_ignored buffer = rw (refusal_same (length buffer)) (go (eqb (write_refusal p (length buffer)) 0) refl)
    where
      go : (b : Bool) → eqb (write_refusal p (length buffer)) 0 ≡ b
          → if_else (eqb (write_refusal p (length buffer)) 0) (write_set (unused_zero p) ++ drop (set_length p.rowcount) buffer) buffer
          ≡ if_else (eqb (write_refusal p (length buffer)) 0) (write_set p ++ drop (set_length p.rowcount) buffer) buffer
      go true e = rw (e, set_same (room p (length buffer) (eqb-true _ _ e)).0)
      go false e = rw e
