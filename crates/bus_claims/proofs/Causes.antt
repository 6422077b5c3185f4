-- A node's permission and its cause, by its last answer and what came after it, a move later.
use Rattle.std.specs.Prelude.{Option, Some, None}
use Prim.Native.Nat.{ℕ, suc, ◌+◌}
use mathlib.Core.Path.{◌≡◌, refl, sym, ap, ap₂, ◌∙◌}
use mathlib.Core.Bool.{Bool, true, false, not, ◌&&◌}
use mathlib.Core.List.{List, [], ◌∷◌}
use lib.Dec.{leb, ltb}
use native.Mathlib.Omega.{arith}
use borrow.Author.Tests.{leb-false, ltb-true, ltb-false, le-leb, lt-leb}
use Rattle.base_lists.specs.Bounded.{if_else}
use Rattle.set_plan.specs.declared.Row.{Row}
use Rattle.machine_master.specs.declared.Answer.{Answer}
use Rattle.machine_master.specs.declared.Hold.{Hold}
use Rattle.machine_master.specs.Answers.{is_whole}
use Rattle.machine_master.specs.Changes.{no_hold, cause_new, woken}
use Rattle.machine_master.specs.Ticks.{older, aged_out}
use Rattle.machine_reason.specs.declared.Cause.{Cause}
use Rattle.machine_reason.specs.Numbers.{cause_number}
use Rattle.bus.specs.declared.Passed.{Passed}
use Rattle.bus_history.specs.Terms.{none, is_wake_up, ticks_in, within}
use Rattle.bus_claims.specs.Reasons.{held_by, cause_by}

abbrev pub given : ℕ → Hold
given age = record { held = true; age = age }

-- of an answer that is whole (w), has the wake bit (k) and gives permission (g); no wake-up since (n), within the window (l), no wake-up within it (y)
abbrev held_is : Bool → Bool → Bool → Bool → Bool → Bool
held_is w k g n l = w && not k && g && (n && l)

abbrev pub number_is : Bool → Bool → Bool → Bool → Bool → Bool → ℕ
number_is w k g n l y =
    if_else (held_is w k g n l) cause_new
    (cause_number (if_else w (if_else k Cause.Woken (if_else g (if_else y Cause.Aged Cause.Woken) Cause.Refused)) Cause.Damaged))

-- a wake-up: of a permission still held it is the cause, of another the cause stays
woken_bits : (w k g n l y z : Bool) (age : ℕ) → (l ≡ true → y ≡ n) → (l ≡ false → z ≡ y)
    → number_is w k g false l (if_else l false z) ≡ woken (if_else (held_is w k g n l) (given age) no_hold) (number_is w k g n l y)
woken_bits false k g n l y z age f h = refl
woken_bits true true g n l y z age f h = refl
woken_bits true false false n l y z age f h = refl
woken_bits true false true true true y z age f h = refl
woken_bits true false true false true y z age f h = rw (f refl)
woken_bits true false true true false y z age f h = rw (h refl)
woken_bits true false true false false y z age f h = rw (h refl)

module _ (window : ℕ) where
  -- a tick: a permission at the window's edge ages out
  older_bits : (w k g n : Bool) (t : ℕ) → if_else (held_is w k g n (leb (suc t) window)) (given (suc t)) no_hold ≡ older window (if_else (held_is w k g n (leb t window)) (given t) no_hold)
  older_bits false k g n t = refl
  older_bits true true g n t = refl
  older_bits true false false n t = refl
  older_bits true false true false t = refl
  older_bits true false true true t = go (ltb t window) refl (leb t window) refl
    where
      go : (d : Bool) → ltb t window ≡ d → (l : Bool) → leb t window ≡ l → if_else (leb (suc t) window) (given (suc t)) no_hold ≡ older window (if_else (leb t window) (given t) no_hold)
      go true d true l =
          let z : t + 1 ≡ suc t = omega arith in
          rw (l, d, z)
      go true d false l = absurd (omega (arith, ltb-true t window d, leb-false t window l))
      go false d true l = rw (l, d)
      go false d false l = rw (l, d)

  aged_bits : (w k g n y : Bool) (t : ℕ) → (leb t window ≡ true → y ≡ n)
      → number_is w k g n (leb (suc t) window) (if_else (leb (suc t) window) n y)
      ≡ aged_out true window (if_else (held_is w k g n (leb t window)) (given t) no_hold) (number_is w k g n (leb t window) y)
  aged_bits false k g n y t f = refl
  aged_bits true true g n y t f = refl
  aged_bits true false false n y t f = refl
  aged_bits true false true n y t f = go n (ltb t window) refl (leb t window) refl f
    where
      young : ltb t window ≡ true → leb window t ≡ false
      young d = lt-leb window t (ltb-true t window d)

      old : ltb t window ≡ false → leb window t ≡ true
      old d = le-leb window t (ltb-false t window d)

      go : (n d : Bool) → ltb t window ≡ d → (l : Bool) → leb t window ≡ l → (leb t window ≡ true → y ≡ n)
          → number_is true false true n (leb (suc t) window) (if_else (leb (suc t) window) n y)
          ≡ aged_out true window (if_else (held_is true false true n (leb t window)) (given t) no_hold) (number_is true false true n (leb t window) y)
      go true true d true l f = rw (l, d, young d)
      go true false d true l f = rw (l, d, old d, f l)
      go false true d true l f = rw (d, f l)
      go false false d true l f = rw d
      go n true d false l f = absurd (omega (arith, ltb-true t window d, leb-false t window l))
      go true false d false l f = rw (l, d)
      go false false d false l f = rw d

  -- no wake-up within the window, a move later
  within_later : (e : Passed) (after : List Passed)
      → none is_wake_up (within window (e ∷ after)) ≡ if_else (leb (ticks_in (e ∷ after)) window) (none is_wake_up (e ∷ after)) (none is_wake_up (within window after))
  within_later e after = go (leb (ticks_in (e ∷ after)) window)
    where
      go : (b : Bool) → none is_wake_up (if_else b (e ∷ after) (within window after)) ≡ if_else b (none is_wake_up (e ∷ after)) (none is_wake_up (within window after))
      go true = refl
      go false = refl

  within_all : (after : List Passed) → leb (ticks_in after) window ≡ true → none is_wake_up (within window after) ≡ none is_wake_up after
  within_all [] h = refl
  within_all (e ∷ after) h = within_later e after ∙ ap (λ (b : Bool). if_else b (none is_wake_up (e ∷ after)) (none is_wake_up (within window after))) h

  -- what the master has of a node
  abbrev pub hold_by : Option (Row × Answer) → List Passed → Hold
  hold_by last after = if_else (held_by window last after) (given (ticks_in after)) no_hold

  abbrev pub number_by : Option (Row × Answer) → List Passed → ℕ
  number_by last after = if_else (held_by window last after) cause_new (cause_number (cause_by window last after))

  number_later : (row : Row) (a : Answer) (e : Passed) (after : List Passed)
      → number_by (Some (row, a)) (e ∷ after)
      ≡ number_is (is_whole row a) a.wake a.permission (none is_wake_up (e ∷ after)) (leb (ticks_in (e ∷ after)) window)
      (if_else (leb (ticks_in (e ∷ after)) window) (none is_wake_up (e ∷ after)) (none is_wake_up (within window after)))
  number_later row a e after =
      ap (number_is (is_whole row a) a.wake a.permission (none is_wake_up (e ∷ after)) (leb (ticks_in (e ∷ after)) window)) (within_later e after)

  module _ (e : Passed) (after : List Passed) where
    -- a move that is no tick and no wake-up
    pub hold_still : (last : Option (Row × Answer)) → e.tick ≡ false → is_wake_up e ≡ false → hold_by last (e ∷ after) ≡ hold_by last after
    hold_still None t w = refl
    hold_still (Some (row, a)) t w = rw (w, t)

    pub number_still : (last : Option (Row × Answer)) → e.tick ≡ false → is_wake_up e ≡ false → number_by last (e ∷ after) ≡ number_by last after
    number_still None t w = refl
    number_still (Some (row, a)) t w =
        number_later row a e after ∙ rw (w, t) (go (leb (ticks_in after) window) refl)
      where
        n : Bool
        n = none is_wake_up after

        y : Bool
        y = none is_wake_up (within window after)

        go : (b : Bool) → leb (ticks_in after) window ≡ b
            → number_is (is_whole row a) a.wake a.permission (none is_wake_up after) (leb (ticks_in after) window) (if_else (leb (ticks_in after) window) (none is_wake_up after) (none is_wake_up (within window after)))
            ≡ number_is (is_whole row a) a.wake a.permission (none is_wake_up after) (leb (ticks_in after) window) (none is_wake_up (within window after))
        go true h =
            ap (number_is (is_whole row a) a.wake a.permission n (leb (ticks_in after) window)) (ap (λ (b : Bool). if_else b n y) h ∙ sym (within_all after h))
        go false h = ap (number_is (is_whole row a) a.wake a.permission n (leb (ticks_in after) window)) (ap (λ (b : Bool). if_else b n y) h)

    -- a wake-up
    pub hold-woken : (last : Option (Row × Answer)) → is_wake_up e ≡ true → hold_by last (e ∷ after) ≡ no_hold
    hold-woken None w = refl
    hold-woken (Some (row, a)) w = rw w (go (is_whole row a && not a.wake && a.permission))
      where
        go : (b : Bool) → if_else (b && (false && leb (ticks_in (e ∷ after)) window)) (given (ticks_in (e ∷ after))) no_hold ≡ no_hold
        go true = refl
        go false = refl

    pub number-woken : (last : Option (Row × Answer)) → e.tick ≡ false → is_wake_up e ≡ true → number_by last (e ∷ after) ≡ woken (hold_by last after) (number_by last after)
    number-woken None t w = refl
    number-woken (Some (row, a)) t w =
        number_later row a e after
        ∙ rw (w, t) (woken_bits (is_whole row a) a.wake a.permission (none is_wake_up after) (leb (ticks_in after) window) (none is_wake_up (within window after)) (none is_wake_up (within window after)) (ticks_in after)
        (within_all after) (λ h. refl))

    -- a tick
    pub hold-older : (last : Option (Row × Answer)) → e.tick ≡ true → is_wake_up e ≡ false → hold_by last (e ∷ after) ≡ older window (hold_by last after)
    hold-older None t w = refl
    hold-older (Some (row, a)) t w = rw (w, t) (older_bits (is_whole row a) a.wake a.permission (none is_wake_up after) (ticks_in after))

    pub number-older : (last : Option (Row × Answer)) → e.tick ≡ true → is_wake_up e ≡ false → number_by last (e ∷ after) ≡ aged_out true window (hold_by last after) (number_by last after)
    number-older None t w = refl
    number-older (Some (row, a)) t w =
        number_later row a e after
        ∙ rw (w, t) (aged_bits (is_whole row a) a.wake a.permission (none is_wake_up after) (none is_wake_up (within window after)) (ticks_in after) (within_all after))

    -- a pulse that follows the tick's ageing
    pub number_pulse : (last : Option (Row × Answer)) (f : Passed) → e.tick ≡ true → is_wake_up e ≡ false → f.tick ≡ true → is_wake_up f ≡ true
        → number_by last (f ∷ after) ≡ woken (hold_by last (e ∷ after)) (number_by last (e ∷ after))
    number_pulse None f t w u v = refl
    number_pulse (Some (row, a)) f t w u v =
        number_later row a f after
        ∙ rw (v, u) (woken_bits (is_whole row a) a.wake a.permission n l (if_else l n y) y (suc (ticks_in after)) (λ h. ap (λ (b : Bool). if_else b n y) h) (λ h. sym (ap (λ (b : Bool). if_else b n y) h)))
        ∙ sym (ap₂ woken hold_there number_there)
      where
        n : Bool
        n = none is_wake_up after

        l : Bool
        l = leb (suc (ticks_in after)) window

        y : Bool
        y = none is_wake_up (within window after)

        hold_there : hold_by (Some (row, a)) (e ∷ after) ≡ if_else (held_is (is_whole row a) a.wake a.permission n l) (given (suc (ticks_in after))) no_hold
        hold_there = rw (w, t)

        number_there : number_by (Some (row, a)) (e ∷ after) ≡ number_is (is_whole row a) a.wake a.permission n l (if_else l n y)
        number_there = number_later row a e after ∙ rw (w, t)

  -- the answer itself
  pub hold-answer : (row : Row) (a : Answer) → hold_by (Some (row, a)) [] ≡ if_else (is_whole row a && not a.wake && a.permission) (given 0) no_hold
  hold-answer row a = rw (le-leb 0 window (omega arith)) (go (is_whole row a && not a.wake && a.permission))
    where
      go : (b : Bool) → if_else (b && (true && true)) (given 0) no_hold ≡ if_else b (given 0) no_hold
      go true = refl
      go false = refl

  pub number-answer : (row : Row) (a : Answer) → number_by (Some (row, a)) [] ≡ number_is (is_whole row a) a.wake a.permission true true true
  number-answer row a = rw (le-leb 0 window (omega arith))
