-- Turns that go on, none and one more.
use Rattle.std.proofs.Common.{ℕ, suc, ◌≡◌, refl}
use Rattle.std.specs.declared.ops.ControlFlow.{ControlFlow}
use Rattle.std.specs.declared.ops.ControlFlow.TheVariants.{Continue}
use Rattle.program_files.specs.Turns.{GoesOn}

module _ {F S B : Type 0} (step : F → S → ControlFlow B S → F → Type 0) where
  pub no_turn : (f : F) (s : S) → GoesOn step 0 f s f s
  unfolding GoesOn
  no_turn f s = (refl, refl)

  pub one_turn : (m : ℕ) (f g h : F) (s u t : S) → step f s (Continue u) g → GoesOn step m g u h t → GoesOn step (suc m) f s h t
  unfolding GoesOn
  one_turn m f g h s u t a b = (g, u, a, b)
