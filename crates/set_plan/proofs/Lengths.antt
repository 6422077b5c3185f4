-- W-207: which lengths a row accepts, by its kind.
use Prim.Native.Nat.{ℕ, ◌≤◌, ◌<◌}
use mathlib.Core.Path.{◌≡◌, refl}
use mathlib.Core.Bool.{Bool, true, false}
use native.Mathlib.Omega.{arith}
use borrow.Author.Tests.{eq-eqb, eqb-true, le-leb, lt-leb}
use Rattle.set_plan.specs.declared.Row.{Row}
use Rattle.set_plan.specs.Answering.{is_counted, is_variable, accepts}

abbrev of_kind : ℕ → Row
of_kind kind = record { reqid = 1; publisher = 0; length = 8; kind = kind }

abbrev is : ℕ → Bool → Bool → Type 0
is kind variable counted = (is_variable (of_kind kind) ≡ variable) × (is_counted (of_kind kind) ≡ counted)

-- "1 if it carries a sequence count, else 0"; "2, variable without count, or 3, variable with count"
kinds : is 0 false false × is 1 false true × is 2 true false × is 3 true true
kinds = ((refl, refl), (refl, refl), (refl, refl), (refl, refl))

module _ (r : Row) (length : ℕ) where
  -- a fixed row accepts exactly its length
  pub fixed_own : is_variable r ≡ false → length ≡ r.length → accepts r length ≡ true
  fixed_own v e = rw (v, e) (eq-eqb r.length r.length refl)

  pub fixed_only : is_variable r ≡ false → accepts r length ≡ true → length ≡ r.length
  fixed_only v a = eqb-true length r.length (rw v at a)

  -- a variable row every length up to it, 0 too, and no other
  pub variable_up_to : is_variable r ≡ true → length ≤ r.length → accepts r length ≡ true
  variable_up_to v l = rw v (le-leb length r.length l)

  pub variable_longer : is_variable r ≡ true → r.length < length → accepts r length ≡ false
  variable_longer v l = rw v (lt-leb length r.length l)

pub variable_none : (r : Row) → is_variable r ≡ true → accepts r 0 ≡ true
variable_none r v = variable_up_to r 0 v (omega arith)
