-- Bytes as a head and what is behind it.
use Prim.Native.Nat.{ℕ, ◌+◌, ◌-◌, ◌<◌}
use mathlib.Core.Path.{◌≡◌, ap, ◌∙◌}
use mathlib.Core.List.{List, ◌++◌}
use lib.ListN.{length, get_or, length-append, get_or-append}
use lib.Seq.{get_or-append-add, ext_get_or}
use native.Mathlib.Omega.{arith}
use native.Mathlib.Decide.{dec_lt}
use Rattle.base_lists.specs.Bounded.{tab}
use Rattle.base_lists.proofs.Tables.{get_or-tab, length-tab}
use Rattle.base_bytes.specs.Bytes.{byte}

-- the first bytes, then the others, are all the bytes
pub head_and_rest : (s head : List ℕ) (n k : ℕ) → length s ≡ n + k → head ≡ tab n (byte s) → head ++ tab k (λ i. byte s (n + i)) ≡ s
head_and_rest s head n k size e = rw e (ext_get_or 0 (tab n (byte s) ++ tab k (λ i. byte s (n + i))) s long (λ o h. at o (omega (arith, long)) (dec_lt o n)))
  where
    long : length (tab n (byte s) ++ tab k (λ i. byte s (n + i))) ≡ length s
    long = simp (length-append, length-tab, size)

    at : (o : ℕ) → o < length s → Dec (o < n) → get_or (tab n (byte s) ++ tab k (λ i. byte s (n + i))) o 0 ≡ byte s o
    at o h (yes p) = get_or-append (tab n (byte s)) (tab k (λ i. byte s (n + i))) 0 o (omega (arith, length-tab n (byte s))) ∙ get_or-tab n (byte s) o 0 p
    at o h (no p) =
        let u : o ≡ length (tab n (byte s)) + (o - n) = omega (arith, length-tab n (byte s)) in
        let z : n + (o - n) ≡ o = omega arith in
        ap (λ q. get_or (tab n (byte s) ++ tab k (λ i. byte s (n + i))) q 0) u ∙ get_or-append-add (tab n (byte s)) (tab k (λ i. byte s (n + i))) (o - n) 0
        ∙ get_or-tab k (λ i. byte s (n + i)) (o - n) 0 (omega (arith, size)) ∙ ap (byte s) z
