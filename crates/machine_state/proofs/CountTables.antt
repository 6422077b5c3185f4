-- Laws of a table of sequence counts.
use Prim.Native.Nat.{ℕ, ◌<◌}
use mathlib.Core.Path.{◌≡◌}
use mathlib.Core.Bool.{true}
use mathlib.Core.List.{List}
use lib.ListN.{get_or, set, length}
use lib.Seq.{get_or-set_same, get_or-set_other, set_out}
use native.Mathlib.Omega.{arith}
use native.Mathlib.Decide.{dec_lt, ℕ_discrete}
use borrow.Author.Tests.{lt-ltb, ltb-true}
use Rattle.base_lists.proofs.AllAny.{all_at, all_intro}
use Rattle.machine_state.specs.Counts.{count_below, counts_below}

-- a table that holds a limit holds it at each place ..
pub count_at : (limit : ℕ) (counts : List ℕ) (i : ℕ) → counts_below limit counts ≡ true → i < 128 → get_or counts i 0 < limit
unfolding counts_below
count_at limit counts i e l = ltb-true _ _ (all_at (count_below limit counts) 128 e i l)

-- .. also after a store below the limit
pub counts_set : (limit : ℕ) (counts : List ℕ) (i v : ℕ) → counts_below limit counts ≡ true → v < limit → counts_below limit (set counts i v) ≡ true
unfolding counts_below
counts_set limit counts i v e l = all_intro (count_below limit (set counts i v)) 128 (λ j m. lt-ltb _ _ (at j m (ℕ_discrete j i) (dec_lt i (length counts))))
  where
    at : (j : ℕ) → j < 128 → Dec (j ≡ i) → Dec (i < length counts) → get_or (set counts i v) j 0 < limit
    at j m (no n) h = rw (get_or-set_other counts i j v 0 n) (count_at limit counts j e m)
    at j m (yes q) (yes h) = rw (q, get_or-set_same counts i v 0 h) l
    at j m (yes q) (no h) = rw (set_out counts i v (omega arith)) (count_at limit counts j e m)
