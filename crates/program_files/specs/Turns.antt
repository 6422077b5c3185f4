-- Turns that a closure takes, a state handed from each to the next.
use Rattle.std.specs.Prelude.{ℕ, zero, suc, ◌≡◌, ◌<◌}
use Rattle.std.specs.declared.ops.ControlFlow.{ControlFlow}
use Rattle.std.specs.declared.ops.ControlFlow.TheVariants.{Continue, Break}

-- from a closure and a state to others by so many turns that went on; `step f s r g`: the turn of f at s may give r and leave g
unfoldable pub GoesOn : {F S B : Type 0} → (F → S → ControlFlow B S → F → Type 0) → ℕ → F → S → F → S → Type 0
GoesOn step zero f s g t = (f ≡ g) × (s ≡ t)
GoesOn {F} {S} step (suc n) f s g t = (h : F) × (u : S) × step f s (Continue u) h × GoesOn step n h u g t

-- the turns from a closure and a state: the first that does not go on is the last; of so many at most
abbrev pub TurnsTo : {F S B : Type 0} → (F → S → ControlFlow B S → F → Type 0) → ℕ → F → S → ControlFlow B S → Type 0
TurnsTo {F} {S} step most f s (Break last) = (n : ℕ) × (n < most) × (g : F) × (t : S) × GoesOn step n f s g t × (h : F) × step g t (Break last) h
TurnsTo {F} step most f s (Continue t) = (g : F) × GoesOn step most f s g t
