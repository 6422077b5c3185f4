-- A whole answer on the bus has a length that its row accepts, and every length that it accepts.
use Prim.Native.Nat.{ℕ}
use mathlib.Core.Path.{◌≡◌, refl}
use mathlib.Core.Bool.{Bool, true, false, ◌&&◌}
use lib.Dec.{leb, eqb}
use native.Mathlib.Omega.{arith}
use borrow.Author.Tests.{eq-eqb, eqb-true, le-leb}
use Rattle.base_lists.specs.Bounded.{if_else}
use Rattle.set_plan.specs.declared.Row.{Row}
use Rattle.set_plan.specs.Answering.{is_variable, accepts}
use Rattle.bus.specs.Messages.{sent_length}

module _ (row : Row) where
  pub sent_accepted : (length : ℕ) → accepts row (sent_length row length) ≡ true
  sent_accepted length = go (is_variable row) (leb length row.length) refl
    where
      go : (v l : Bool) → leb length row.length ≡ l
          → if_else v (leb (if_else (v && l) length row.length) row.length) (eqb (if_else (v && l) length row.length) row.length) ≡ true
      go true true e = e
      go true false e = le-leb row.length row.length (omega arith)
      go false l e = eq-eqb row.length row.length refl

  pub accepted_sent : (length : ℕ) → accepts row length ≡ true → sent_length row length ≡ length
  accepted_sent length = go (is_variable row)
    where
      go : (v : Bool) → if_else v (leb length row.length) (eqb length row.length) ≡ true → if_else (v && leb length row.length) length row.length ≡ length
      go true e = rw e
      go false e = rw (eqb-true length row.length e)
