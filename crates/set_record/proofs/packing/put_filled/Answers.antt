-- An offset past the largest number lies past the end, where a store changes nothing. Assumes nothing.
use Prim.Native.Nat.{ℕ, min, ◌+◌, ◌-◌, ◌≤◌, ◌<◌}
use mathlib.Core.Path.{◌≡◌, ap, sym, ◌∙◌}
use mathlib.Core.List.{List}
use lib.ListN.{length, replicate}
use lib.Seq.{sets}
use native.Mathlib.Omega.{arith}
use native.Mathlib.Decide.{dec_lt}
use Rattle.base_lists.proofs.Stores.{sets_out}
use Rattle.set_record.proofs.packing.put_filled.Goals as goal

saturated : (a l : List ℕ) (i j top : ℕ) → i ≡ min j top → length l ≤ top → sets l i a ≡ sets l j a
saturated a l i j top e h = go (dec_lt top j)
  where
    go : Dec (top < j) → sets l i a ≡ sets l j a
    go (yes p) = sets_out a l i (omega arith) ∙ sym (sets_out a l j (omega arith))
    go (no p) = ap (λ k. sets l k a) (omega arith)

pub returns : goal.returns
returns c =
    let used = c.args.used.now in
    let zeros = replicate {A = ℕ} (c.args.room - length used) 0 in
    c.put_zeros.ensures ∙ ap (λ n. sets c.put.new.buffer c.saturating_add.result (replicate {A = ℕ} n 0)) c.saturating_sub.ensures
    ∙ saturated zeros c.put.new.buffer c.saturating_add.result (c.args.start + length used) 18446744073709551615 c.saturating_add.ensures (omega (arith, c.put.auto.buffer))
    ∙ ap (λ l. sets l (c.args.start + length used) zeros) c.put.ensures
