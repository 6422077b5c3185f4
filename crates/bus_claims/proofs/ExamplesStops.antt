-- (a) on computed lists: a stop to which all agreed, lists in which somebody takes it back and no stop comes, and the window's edge.
use Prim.Native.Nat.{ℕ, zero, suc, ◌≤◌, ◌<◌}
use mathlib.Core.Path.{◌≡◌, refl, sym, ap, ◌∙◌}
use mathlib.Core.Bool.{Bool, true, false, not}
use mathlib.Core.List.{List, [], ◌∷◌, ◌++◌}
use lib.ListN.{get_or, take, drop}
use native.Mathlib.Omega.{arith}
use borrow.Author.Tests.{eq-eqb, not-true}
use Rattle.base_lists.specs.Bounded.{if_else, any_to, first_to, tab}
use Rattle.base_lists.proofs.AllAny.{and_l, and_r}
use Rattle.base_lists.proofs.Choices.{no_way}
use Rattle.set_plan.specs.declared.Plan.{Plan}
use Rattle.set_plan.specs.declared.Row.{Row}
use Rattle.set_plan.specs.Find.{has_reqid, row_among, find_row}
use Rattle.set_plan.specs.Record.{zero_row}
use Rattle.machine_master.specs.declared.Answer.{Answer}
use Rattle.machine_master.specs.Answers.{is_whole}
use Rattle.machine_master.specs.Sleeping.{not_held}
use Rattle.machine_master.specs.Ticks.{all_older}
use Rattle.bus.specs.declared.Act.{Act}
use Rattle.bus.specs.declared.Passed.{Passed}
use Rattle.bus.specs.Passed.{nothing, answered, sending}
use Rattle.bus_claims.specs.Claims.{Given, Agreed}
use Rattle.bus_history.specs.Examples.{plan, does, ticks, lossless, answering, asking_after, stopping, taking_back, damaged, refusing}
use Rattle.bus_history.specs.Run.{run}
use Rattle.bus_history.specs.Terms.{none, truly_given, is_answer_of, is_damaged, is_refusing, is_wake_up, is_sending, is_stop, ticks_in}
use Rattle.bus_claims.proofs.ClaimsHold.{claims_hold}
use Rattle.bus_claims.proofs.ExamplePlans.{accepted}

-- the moves since the last one of which a test holds: what `Agreed` and `Given` call `since`
abbrev since_last : (Passed → Bool) → List Passed → List Passed
since_last test [] = []
since_last test (e ∷ past) = if_else (test e) [] (e ∷ since_last test past)

since_last_lem : (test : Passed → Bool) (since : List Passed) (e : Passed) (before : List Passed) → none test since ≡ true → test e ≡ true → since_last test (since ++ (e ∷ before)) ≡ since
since_last_lem test [] e before n h = rw h
since_last_lem test (x ∷ since) e before n h =
    rw (not-true (test x) (and_l (not (test x)) (none test since) n)) (ap (λ (l : List Passed). x ∷ l) (since_last_lem test since e before (and_r (not (test x)) (none test since) n) h))

module _ (p : Plan) (past : List Passed) where
  agreed_since : (a : Agreed p past) → a.since ≡ since_last is_sending past
  agreed_since a = sym (ap (since_last is_sending) a.split ∙ since_last_lem is_sending a.since sending a.before a.last refl)

  woken-since : none is_wake_up (since_last is_sending past) ≡ false → Agreed p past → ⊥
  woken-since e a = no_way (sym e ∙ ap (none is_wake_up) (sym (agreed_since a)) ∙ a.unwoken)

  refused-since : none is_refusing (since_last is_sending past) ≡ false → Agreed p past → ⊥
  refused-since e a = no_way (sym e ∙ ap (none is_refusing) (sym (agreed_since a)) ∙ a.unrefused)

  damaged-since : none is_damaged (since_last is_sending past) ≡ false → Agreed p past → ⊥
  damaged-since e a = no_way (sym e ∙ ap (none is_damaged) (sym (agreed_since a)) ∙ a.undamaged)

  too_old : (i : ℕ) → p.times.window < ticks_in (since_last (is_answer_of i) past) → Given p i past → ⊥
  too_old i old g =
      let e : g.since ≡ since_last (is_answer_of i) past
      = sym (ap (since_last (is_answer_of i)) g.split ∙ since_last_lem (is_answer_of i) g.since (answered g.row g.answer) g.before g.last (eq-eqb g.row.publisher i g.publisher)) in
      let k : ticks_in g.since ≡ ticks_in (since_last (is_answer_of i) past) = ap ticks_in e in
      omega (arith, old, g.window, k)

-- a whole answer of W ticks ago at most, k moves before the end
gave : (row : Row) (a : Answer) (k : ℕ) {past : List Passed} → past ≡ take k past ++ (answered row a ∷ drop (suc k) past) → none (is_answer_of row.publisher) (take k past) ≡ true → is_whole row a ≡ true
    → truly_given row.publisher a (drop (suc k) past) ≡ true → ticks_in (take k past) ≤ plan.times.window → none is_wake_up (take k past) ≡ true → Given plan row.publisher past
gave row a k {past} split last whole truly window unwoken =
    record {
      since = take k past;
      row = row;
      answer = a;
      before = drop (suc k) past;
      split = split;
      publisher = refl;
      last = last;
      whole = whole;
      truly = truly;
      window = window;
      unwoken = unwoken;
    }

-- the rows of both nodes, and the permission that each gives; node 0 has answered once before
abbrev row_of : ℕ → Row
row_of i = get_or plan.rows i zero_row

abbrev permission : ℕ → ℕ → Answer
permission reqid count = record { reqid = reqid; result = 0; length = 2; count = count; permission = true; wake = false }

-- both answered, n ticks before the end
abbrev answers : ℕ → List Passed
answers n = (run plan (answering ++ ticks n lossless)).past

given : (i : ℕ) → i < 2 → Given plan i (answers 0)
unfolding find_row row_among has_reqid first_to any_to not_held all_older tab
given zero l = gave (row_of 0) (permission 1 1) 1 refl refl refl refl (omega arith) refl
given (suc zero) l = gave (row_of 1) (permission 2 0) 0 refl refl refl refl (omega arith) refl
given (suc (suc i)) l = absurd (omega arith)

-- a stop, and the last sending before it: all agreed, as the claim says of every stop
abbrev stopped : List Passed
stopped = (run plan stopping).past

agreed : Agreed plan (drop 1 stopped)
unfolding find_row row_among has_reqid first_to any_to not_held all_older tab
agreed =
    record {
      since = take 2 (drop 1 stopped);
      before = answers 0;
      split = refl;
      last = refl;
      master = refl;
      each = given;
      unwoken = refl;
      unrefused = refl;
      undamaged = refl;
    }

claimed : Agreed plan (drop 1 stopped)
unfolding find_row row_among has_reqid first_to any_to not_held all_older tab
claimed = (claims_hold plan accepted stopping).stops [] (drop 1 stopped) (get_or stopped 0 nothing) refl refl

-- the master's application asks to wake after the sending: no stop comes, and nothing is agreed
abbrev woken : List Passed
woken = (run plan (taking_back (does Act.MasterWakeAsk))).past

woken_runs : none is_stop woken ≡ true
unfolding find_row row_among has_reqid first_to any_to not_held all_older tab
woken_runs = refl

woken_back : Agreed plan woken → ⊥
unfolding find_row row_among has_reqid first_to any_to not_held all_older tab
woken_back = woken-since plan woken refl

-- a damaged answer
abbrev spoiled : List Passed
spoiled = (run plan (taking_back damaged)).past

spoiled_runs : none is_stop spoiled ≡ true
unfolding find_row row_among has_reqid first_to any_to not_held all_older tab
spoiled_runs = refl

spoiled_back : Agreed plan spoiled → ⊥
unfolding find_row row_among has_reqid first_to any_to not_held all_older tab
spoiled_back = damaged-since plan spoiled refl

-- an answer of a node whose application has said no
abbrev refused : List Passed
refused = (run plan refusing).past

refused_runs : none is_stop refused ≡ true
unfolding find_row row_among has_reqid first_to any_to not_held all_older tab
refused_runs = refl

refused_back : Agreed plan refused → ⊥
unfolding find_row row_among has_reqid first_to any_to not_held all_older tab
refused_back = refused-since plan refused refl

-- the window's edge: W ticks after node 0's answer it is given, and the sleep message goes
edge : Given plan 0 (answers 3)
unfolding find_row row_among has_reqid first_to any_to not_held all_older tab
edge = gave (row_of 0) (permission 1 1) 4 refl refl refl refl (omega arith) refl

edge_sends : none is_sending (take 1 (run plan (asking_after 3)).past) ≡ false
unfolding find_row row_among has_reqid first_to any_to not_held all_older tab
edge_sends = refl

-- W + 1 ticks after it, it is not, and the ask is refused
past_edge : Given plan 0 (answers 4) → ⊥
unfolding find_row row_among has_reqid first_to any_to not_held all_older tab
past_edge = too_old plan (answers 4) 0 (omega arith)

past_edge_refused : none is_sending (run plan (asking_after 4)).past ≡ true
unfolding find_row row_among has_reqid first_to any_to not_held all_older tab
past_edge_refused = refl
