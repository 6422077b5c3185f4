-- The ticks at the end of a past, counted move by move.
use Prim.Native.Nat.{ℕ, suc, ◌≤◌}
use mathlib.Core.Path.{◌≡◌, sym, subst}
use mathlib.Core.Bool.{Bool, true, false, not, ◌||◌}
use mathlib.Core.List.{List, [], ◌∷◌, ◌++◌}
use native.Mathlib.Omega.{arith}
use Rattle.base_lists.specs.Bounded.{if_else}
use Rattle.base_lists.proofs.AllAny.{and_l, and_r}
use Rattle.base_lists.proofs.Choices.{no_way}
use Rattle.bus.specs.declared.Passed.{Passed}
use Rattle.bus_claims.specs.Claims.{ClockFor}
use Rattle.bus_history.specs.Terms.{every, none, ticks_in, leaves_on, leaves_off, is_ask, reaches}

-- after each of which the clock was on, none of them before a sleep message that reached node i
abbrev on_step : ℕ → Passed → ℕ → ℕ
on_step i e k = if_else (reaches i e) 0 (if_else e.tick (if_else e.clock (suc k) 0) k)

abbrev pub on_for : ℕ → List Passed → ℕ
on_for i [] = 0
on_for i (e ∷ past) = on_step i e (on_for i past)

-- after each of which the clock was off, none of them before an ask to wake
abbrev off_step : Passed → ℕ → ℕ
off_step e k = if_else (is_ask e) 0 (if_else e.tick (if_else e.clock 0 (suc k)) k)

abbrev pub off_for : List Passed → ℕ
off_for [] = 0
off_for (e ∷ past) = off_step e (off_for past)

-- a tick more
abbrev pub plus : Passed → ℕ → ℕ
plus e k = if_else e.tick (suc k) k

on_entry_lem : (i : ℕ) (e : Passed) (k j : ℕ) → leaves_on e ≡ true → not (reaches i e) ≡ true → k ≤ j → plus e k ≤ on_step i e j
on_entry_lem i e k j c r l = go (reaches i e) e.tick e.clock c r
  where
    go : (reached tick clock : Bool) → (not tick || clock) ≡ true → not reached ≡ true → if_else tick (suc k) k ≤ if_else reached 0 (if_else tick (if_else clock (suc j) 0) j)
    go true tick clock c r = no_way r
    go false true true c r = omega arith
    go false true false c r = no_way c
    go false false clock c r = l

off_entry : (e : Passed) (k j : ℕ) → leaves_off e ≡ true → not (is_ask e) ≡ true → k ≤ j → plus e k ≤ off_step e j
off_entry e k j c r l = go e.asked e.tick e.clock c r
  where
    go : (asks tick clock : Bool) → (not tick || not clock) ≡ true → not asks ≡ true → if_else tick (suc k) k ≤ if_else asks 0 (if_else tick (if_else clock 0 (suc j)) j)
    go true tick clock c r = no_way r
    go false true true c r = no_way c
    go false true false c r = omega arith
    go false false clock c r = l

on_ticks : (i : ℕ) (recent earlier : List Passed) → every leaves_on recent ≡ true → none (reaches i) recent ≡ true → ticks_in recent ≤ on_for i (recent ++ earlier)
on_ticks i [] earlier c r = omega arith
on_ticks i (e ∷ recent) earlier c r =
    on_entry_lem i e (ticks_in recent) (on_for i (recent ++ earlier)) (and_l (leaves_on e) (every leaves_on recent) c) (and_l (not (reaches i e)) (none (reaches i) recent) r)
    (on_ticks i recent earlier (and_r (leaves_on e) (every leaves_on recent) c) (and_r (not (reaches i e)) (none (reaches i) recent) r))

off_ticks : (recent earlier : List Passed) → every leaves_off recent ≡ true → none is_ask recent ≡ true → ticks_in recent ≤ off_for (recent ++ earlier)
off_ticks [] earlier c r = omega arith
off_ticks (e ∷ recent) earlier c r =
    off_entry e (ticks_in recent) (off_for (recent ++ earlier)) (and_l (leaves_off e) (every leaves_off recent) c) (and_l (not (is_ask e)) (none is_ask recent) r)
    (off_ticks recent earlier (and_r (leaves_off e) (every leaves_off recent) c) (and_r (not (is_ask e)) (none is_ask recent) r))

-- on, or off, for n ticks: so many are counted at least
pub on_counted : (i n : ℕ) (past : List Passed) (on : ClockFor leaves_on n past) → none (reaches i) on.recent ≡ true → n ≤ on_for i past
on_counted i n past on r =
    subst (λ (l : List Passed). n ≤ on_for i l) (sym on.split) (subst (λ (k : ℕ). k ≤ on_for i (on.recent ++ on.earlier)) on.ticks (on_ticks i on.recent on.earlier on.clock r))

pub off_counted : (n : ℕ) (past : List Passed) (off : ClockFor leaves_off n past) → none is_ask off.recent ≡ true → n ≤ off_for past
off_counted n past off r =
    subst (λ (l : List Passed). n ≤ off_for l) (sym off.split) (subst (λ (k : ℕ). k ≤ off_for (off.recent ++ off.earlier)) off.ticks (off_ticks off.recent off.earlier off.clock r))
