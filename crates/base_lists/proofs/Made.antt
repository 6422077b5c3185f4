-- What an array made of calls at each place holds.
use Prim.Native.Nat.{ℕ, zero, suc, ◌+◌, ◌≤◌, ◌<◌}
use mathlib.Core.Path.{◌≡◌, ◌∙◌}
use mathlib.Core.List.{List}
use lib.ListN.{get_or}
use native.Mathlib.Omega.{arith}
use native.Mathlib.Decide.{dec_lt}
use Rattle.std.specs.Array.{IsFromFnResultFrom, IsFromFnResult}
use Rattle.std.specs.Fn.{Mut, Called}
use Rattle.base_lists.specs.Bounded.{tab}
use Rattle.base_lists.proofs.Tables.{tab_of}

module _ {F B : Type 0} (g : Mut F (ℕ × Unit {0}) B) (none : B) (want : ℕ → B) (f : F) (ys : List B) (size : ℕ)
    (each : (k : ℕ) (y : B) (q : F) → k < size → Called g f (k, tt) y q → (q ≡ f) × (y ≡ want k)) where
  places : (n i : ℕ) → i + n ≡ size → IsFromFnResultFrom g f ys i n → (k : ℕ) → i ≤ k → k < size → get_or ys k none ≡ want k
  places zero i e h k a b = absurd (omega arith)
  places (suc n) i e h k a b =
      let call = each i h.1 h.0 (omega arith) h.3 in
      go (dec_lt i k) (λ l. places n (i + 1) (omega arith) (rw call.0 at h.4) k (omega arith) b) (h.2.1 none ∙ call.1)
    where
      go : Dec (i < k) → (i < k → get_or ys k none ≡ want k) → get_or ys i none ≡ want i → get_or ys k none ≡ want k
      go (yes l) later now = later l
      go (no l) later now =
          let z : k ≡ i = omega arith in
          rw z now

  pub made : IsFromFnResult g f ys size → ys ≡ tab size want
  made h = tab_of none size want ys h.long (λ k b. places size 0 (omega arith) h.each k (omega arith) b)
