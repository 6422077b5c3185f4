-- The places so far hold their bytes, the others zero, as past the end. Assumes nothing.
use Prim.Native.Nat.{ℕ, ◌+◌, ◌≤◌, ◌<◌}
use mathlib.Core.Path.{◌≡◌, sym, ◌∙◌}
use native.Mathlib.Omega.{arith}
use native.Mathlib.Decide.{dec_lt}
use lib.ListN.{length, get_or, get_or-replicate, length-replicate, get_or-eq_default}
use Rattle.base_lists.proofs.Tables.{tab_of}
use Rattle.base_bytes.specs.Bytes.{byte}
use mathlib.Core.List.{List}
use Rattle.machine_state.proofs.bytes.bytes_at.Goals as goal

after : (s : List ℕ) (start : ℕ) (table : List ℕ) (i k : ℕ) → ((k : ℕ) → k < i → get_or table k 0 ≡ byte s (start + k)) → (i ≤ k → get_or table k 0 ≡ 0) → (i ≤ k → length s ≤ start + k)
    → Dec (k < i) → get_or table k 0 ≡ byte s (start + k)
after s start table i k f g h (yes p) = f k p
after s start table i k f g h (no p) = g (omega arith) ∙ sym (get_or-eq_default s 0 (h (omega arith)))

pub loop-i-init : goal.loop-i-init
loop-i-init g c = (length-replicate g.row.N 0, λ k p. absurd (omega arith), λ k p q. get_or-replicate g.row.N k 0 0 q)

pub returns : goal.returns
returns g c =
    let l = c.loop-i in
    let s = c.args.bytes.now in
    let start = c.args.start in
    tab_of 0 g.row.N (λ k. byte s (start + k)) l.table l.invariant.0 (λ k p. after s start l.table l.i k l.invariant.1 (λ g. l.invariant.2 k g p) (λ g. c.reach-within.ensures.outside k (omega arith) p) (dec_lt k l.i))
