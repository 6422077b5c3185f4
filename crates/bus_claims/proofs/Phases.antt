-- The master's phase, by what passed since the last sending.
use Rattle.std.specs.Prelude.{Option, Some, None}
use mathlib.Core.Path.{◌≡◌, refl, ap}
use mathlib.Core.Bool.{Bool, true, false, not, ◌&&◌, ◌||◌}
use mathlib.Core.List.{List, [], ◌∷◌}
use Rattle.base_lists.specs.Bounded.{if_else}
use Rattle.base_lists.proofs.AllAny.{and_l, and_r}
use Rattle.base_lists.proofs.Choices.{no_way}
use Rattle.machine_master.specs.declared.Master.{Master}
use Rattle.machine_master.specs.declared.Phase.{Phase}
use Rattle.machine_master.specs.Changes.{call_back_by, call_back}
use Rattle.bus.specs.declared.Passed.{Passed}
use Rattle.bus.specs.Passed.{ticked, slept}
use Rattle.machine_master.specs.Clock.{is_closing}
use Rattle.machine_master.proofs.InRun as InRun
use Rattle.bus_history.specs.Terms.{none, some, since, is_sending, is_stop, is_result, has_result, was_sent, is_sent, is_call_back}
use Rattle.bus_claims.specs.Reasons.{under_way, owed}

-- by whether there was a sending, and since it no call-back (b), no result (r), one that was sent (s), no stop (t)
abbrev phase_by : Bool → Bool → Bool → Bool → Bool → Phase
phase_by false b r s t = Phase.Open
phase_by true true true s t = Phase.Sending
phase_by true false true s t = Phase.Withdrawn
phase_by true b false s t = if_else (b && s && t) Phase.Closing Phase.Open

abbrev pub phase_shown : List Passed → Phase
phase_shown past =
    phase_by (some is_sending past) (none is_call_back (since is_sending past)) (none has_result (since is_sending past)) (some is_sent (since is_sending past)) (none is_stop (since is_sending past))

-- the phase of a called-back message; one under way is InRun's
abbrev pub is_owed : Phase → Bool
is_owed Phase.Open = false
is_owed Phase.Sending = false
is_owed Phase.Withdrawn = true
is_owed Phase.Closing = false

pub under_way-shown : (past : List Passed) → under_way past ≡ InRun.is_under_way (phase_shown past)
under_way-shown past = go (some is_sending past) (none is_call_back (since is_sending past)) (none has_result (since is_sending past)) (some is_sent (since is_sending past)) (none is_stop (since is_sending past))
  where
    go : (a b r s t : Bool) → (a && b && (r || s && t)) ≡ InRun.is_under_way (phase_by a b r s t)
    go false b r s t = refl
    go true true true s t = refl
    go true false true s t = refl
    go true true false true true = refl
    go true true false true false = refl
    go true true false false t = refl
    go true false false s t = refl

pub owed-shown : (past : List Passed) → owed past ≡ is_owed (phase_shown past)
owed-shown past = go (some is_sending past) (none is_call_back (since is_sending past)) (none has_result (since is_sending past)) (some is_sent (since is_sending past)) (none is_stop (since is_sending past))
  where
    go : (a b r s t : Bool) → (a && not b && r) ≡ is_owed (phase_by a b r s t)
    go false b r s t = refl
    go true true true s t = refl
    go true false true s t = refl
    go true true false true true = refl
    go true true false true false = refl
    go true true false false t = refl
    go true false false s t = refl

-- after a call-back
abbrev pub back_phase : Phase → Phase
back_phase Phase.Open = Phase.Open
back_phase Phase.Sending = Phase.Withdrawn
back_phase Phase.Withdrawn = Phase.Withdrawn
back_phase Phase.Closing = Phase.Open

pub call_back_phase : (m : Master) → (call_back m).phase ≡ back_phase m.phase
call_back_phase m = go m.phase refl
  where
    go : (q : Phase) → m.phase ≡ q → (call_back_by q m).phase ≡ back_phase q
    go Phase.Open e = e
    go Phase.Sending e = refl
    go Phase.Withdrawn e = e
    go Phase.Closing e = refl

back_by : (a b r s t : Bool) → phase_by a false r s t ≡ back_phase (phase_by a b r s t)
back_by false b r s t = refl
back_by true true true s t = refl
back_by true false true s t = refl
back_by true true false true true = refl
back_by true true false true false = refl
back_by true true false false t = refl
back_by true false false s t = refl

-- a move that calls back and does nothing else to a sleep message
pub back_shown : (e : Passed) (past : List Passed) → is_sending e ≡ false → is_call_back e ≡ true → has_result e ≡ false → is_sent e ≡ false → is_stop e ≡ false
    → phase_shown (e ∷ past) ≡ back_phase (phase_shown past)
back_shown e past s c h i t =
    rw (s, c, h, i, t)
    (back_by (some is_sending past) (none is_call_back (since is_sending past)) (none has_result (since is_sending past)) (some is_sent (since is_sending past)) (none is_stop (since is_sending past)))

-- a pulse in a tick
pub pulse_shown : (clock stop : Bool) (past : List Passed) → phase_shown (ticked clock stop true ∷ past) ≡ back_phase (phase_shown (ticked clock stop false ∷ past))
pulse_shown clock stop past =
    back_by (some is_sending past) (none is_call_back (since is_sending past)) (none has_result (since is_sending past)) (some is_sent (since is_sending past)) (not stop && none is_stop (since is_sending past))

-- the clock's stop, of a message that was sent; a pulse of that tick may call back too
stop_by : (a b r s t c : Bool) → is_closing (phase_by a b r s t) ≡ true → (phase_by a (c && b) r s false ≡ Phase.Open) × (r ≡ false)
stop_by false b r s t c e = no_way e
stop_by true true true s t c e = no_way e
stop_by true false true s t c e = no_way e
stop_by true b false s t c e = (go (c && b) s, refl)
  where
    go : (b s : Bool) → if_else (b && s && false) Phase.Closing Phase.Open ≡ Phase.Open
    go true true = refl
    go true false = refl
    go false s = refl

pub stop_shown : (e : Passed) (past : List Passed) → is_sending e ≡ false → has_result e ≡ false → is_sent e ≡ false → is_stop e ≡ true → is_closing (phase_shown past) ≡ true
    → (phase_shown (e ∷ past) ≡ Phase.Open) × (none has_result (since is_sending past) ≡ false)
stop_shown e past s h i t q =
    let g = stop_by (some is_sending past) (none is_call_back (since is_sending past)) (none has_result (since is_sending past)) (some is_sent (since is_sending past)) (none is_stop (since is_sending past)) (not (is_call_back e)) q in
    (rw (s, h, i, t) g.0, g.1)

-- a message's result
abbrev pub awaits : Phase → Bool
awaits Phase.Open = false
awaits Phase.Sending = true
awaits Phase.Withdrawn = true
awaits Phase.Closing = false

abbrev pub after_result : Bool → Phase → Phase
after_result sent Phase.Open = Phase.Open
after_result sent Phase.Sending = if_else sent Phase.Closing Phase.Open
after_result sent Phase.Withdrawn = Phase.Open
after_result sent Phase.Closing = Phase.Closing

result_by : (a b r s t : Bool) → (r ≡ true → t ≡ true) → (r ≡ true → s ≡ false) → awaits (phase_by a b r s t) ≡ true
    → (phase_by a b false true t ≡ after_result true (phase_by a b r s t)) × (phase_by a b false s t ≡ after_result false (phase_by a b r s t))
result_by false b r s t f g e = no_way e
result_by true true true s t f g e = (rw (f refl), rw (g refl))
result_by true false true s t f g e = (refl, refl)
result_by true true false true true f g e = no_way e
result_by true true false true false f g e = no_way e
result_by true true false false t f g e = no_way e
result_by true false false s t f g e = no_way e

unsent : (past : List Passed) → none has_result past ≡ true → none is_sent past ≡ true
unsent [] h = refl
unsent (e ∷ past) h = rw (here e.result (and_l (not (has_result e)) (none has_result past) h)) (unsent past (and_r (not (has_result e)) (none has_result past) h))
  where
    here : (r : Option Bool) → not (is_result r) ≡ true → was_sent r ≡ false
    here None q = refl
    here (Some sent) q = no_way q

pub result-shown : (sent : Bool) (reached : List Bool) (past : List Passed) → (none has_result (since is_sending past) ≡ true → none is_stop (since is_sending past) ≡ true) → awaits (phase_shown past) ≡ true
    → phase_shown (slept sent reached ∷ past) ≡ after_result sent (phase_shown past)
result-shown sent reached past f q = go sent
  where
    sending : List Passed
    sending = since is_sending past

    both : (phase_by (some is_sending past) (none is_call_back sending) false true (none is_stop sending) ≡ after_result true (phase_shown past))
        × (phase_by (some is_sending past) (none is_call_back sending) false (some is_sent sending) (none is_stop sending) ≡ after_result false (phase_shown past))
    both = result_by (some is_sending past) (none is_call_back sending) (none has_result sending) (some is_sent sending) (none is_stop sending) f (λ h. ap not (unsent sending h)) q

    go : (sent : Bool) → phase_shown (slept sent reached ∷ past) ≡ after_result sent (phase_shown past)
    go true = both.0
    go false = both.1
