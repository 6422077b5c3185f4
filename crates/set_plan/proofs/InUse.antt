-- The rows in use as a list of their own: the rules and the lookup look at no other.
use Rattle.std.specs.Prelude.{Some}
use Prim.Native.Nat.{ℕ, ◌<◌}
use mathlib.Core.Path.{◌≡◌, refl, ap, ◌∙◌}
use mathlib.Core.List.{List}
use mathlib.Core.Bool.{Bool, true, false}
use lib.Dec.{ltb, eqb}
use lib.ListN.{take}
use lib.Seq.{get_or-take}
use native.Mathlib.Omega.{arith}
use borrow.Author.Tests.{ltb-true}
use Rattle.base_lists.specs.Bounded.{all_to, first_to}
use Rattle.base_lists.proofs.AllAny.{all_ext, any_ext}
use Rattle.base_lists.proofs.First.{first_same}
use Rattle.set_plan.specs.declared.Row.{Row}
use Rattle.set_plan.specs.Record.{zero_row, row_at}
use Rattle.set_plan.specs.Find.{has_reqid, row_below, row_among}
use Rattle.set_plan.specs.Rules.{row_right, is_from, publishes}
use Rattle.set_plan.proofs.Unused.{row_ext}

module _ (rows used : List Row) (n : ℕ) (e : used ≡ take n rows) where
  used_at : (j : ℕ) → j < n → row_at used j ≡ row_at rows j
  used_at j h = ap (λ l. row_at l j) e ∙ get_or-take n rows j zero_row h

  pub used_right : (nodecount : ℕ) → all_to (row_right nodecount used) n ≡ all_to (row_right nodecount rows) n
  used_right nodecount =
      all_ext (row_right nodecount used) (row_right nodecount rows) n (λ k h. row_ext nodecount used rows k (λ j q. used_at j (omega arith)))

  pub used_publishes : (k : ℕ) → publishes used n k ≡ publishes rows n k
  unfolding publishes is_from
  used_publishes k = any_ext (is_from used k) (is_from rows k) n (λ j q. ap (λ (r : Row). eqb r.publisher k) (used_at j q))

  pub used_among : (reqid : ℕ) → row_among used reqid n ≡ row_among rows reqid n
  unfolding row_among has_reqid
  used_among reqid =
      ap (row_below used n) (first_same (has_reqid used reqid) (has_reqid rows reqid) n (λ j q. ap (λ (r : Row). eqb r.reqid reqid) (used_at j q)))
      ∙ below (ltb (first_to (has_reqid rows reqid) n) n) refl
    where
      below : (b : Bool) → ltb (first_to (has_reqid rows reqid) n) n ≡ b
          → row_below used n (first_to (has_reqid rows reqid) n) ≡ row_below rows n (first_to (has_reqid rows reqid) n)
      below true q = rw q (ap Some (used_at (first_to (has_reqid rows reqid) n) (ltb-true _ _ q)))
      below false q = rw q
