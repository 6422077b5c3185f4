-- Reading what was written, and writing what was read, over the definitions that `read` and `write` promise.
use Prim.Native.Nat.{ℕ, ◌<◌}
use mathlib.Core.Path.{◌≡◌, sym, ◌∙◌}
use mathlib.Core.List.{List}
use lib.ListN.{length, take, drop}
use lib.Seq.{take_at}
use Rattle.base_bytes.specs.Bytes.{byte}
use Rattle.set_plan.specs.declared.Plan.{Plan}
use Rattle.set_plan.specs.Record.{unused_zero}
use Rattle.set_plan.specs.Rules.{plan_refusal}
use Rattle.set_plan.proofs.Accepted.{accepted, nodes_few, rows_few, rows_some}
use Rattle.set_plan.proofs.Unused.{unused_refusal}
use Rattle.set_reader.specs.Read.{set_refusal, read_set}
use Rattle.set_reader.proofs.Accepted.{accepted-set}
use Rattle.set_reader.proofs.Refusals.{result-number}
use Rattle.set_writer.specs.Write.{set_length, write_set, write_refusal, write_result, written}
use Rattle.set_writer.proofs.Kept.{length_kept, checks_kept, types_kept, revisions_kept, counts_kept, filler_kept}
use Rattle.set_writer.proofs.ReadBack.{plan_back}
use Rattle.set_writer.proofs.SetBytes.{set_long}
use Rattle.set_writer.proofs.WriteBack.{same_set}

-- an accepted record that is written is read back with refusal 0, its unused places zero
pub read_of_written : (p : Plan) → plan_refusal p ≡ 0 → read_set (write_set p) ≡ record { refusal = 0; plan = unused_zero p }
unfolding read_set set_refusal
read_of_written p e =
    let a = accepted p e in
    let u = accepted (unused_zero p) (unused_refusal p ∙ e) in
    let n = nodes_few p a.nodes in
    let m = rows_few p a.rows in
    let k = rows_some p a.rows in
    rw (
      plan_back p n m,
      length_kept p n k m,
      checks_kept p n k m,
      types_kept p n k m,
      u.profile,
      revisions_kept p n k m,
      u.revision,
      u.times,
      u.nodes,
      counts_kept p n k m,
      u.rows,
      u.published,
      filler_kept p n k m,
    )

-- an accepted byte string is what its record is written to
pub written_of_read : (s : List ℕ) → ((o : ℕ) → byte s o < 256) → (read_set s).refusal ≡ 0 → write_set (read_set s).plan ≡ s
unfolding read_set
written_of_read s bytes e =
    let z : set_refusal s ≡ 0 = sym (result-number s) ∙ e in
    rw z (same_set s (accepted-set s z) bytes)

-- the set stands at the front of the buffer that `write` leaves
pub written_front : (p : Plan) (buffer : List ℕ) → write_refusal p (length buffer) ≡ 0
    → take (write_result p (length buffer)).length (written p buffer) ≡ write_set p
unfolding written write_result
written_front p buffer e = rw e (take_at (write_set p) (drop (set_length p.rowcount) buffer) (set_length p.rowcount) (set_long p))
