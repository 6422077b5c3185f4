-- The terms of demand 3 and of W-205's reasons, "told by the moves and what passed in them". A past has its latest move first.
use Rattle.std.specs.Prelude.{ℕ, suc, Bool, true, false, not, ◌&&◌, ◌||◌, List, [], ◌∷◌, leb, eqb, get_or, Option, Some, None}
use Rattle.base_lists.specs.Bounded.{if_else}
use Rattle.set_plan.specs.declared.Row.{Row}
use Rattle.machine_master.specs.declared.Answer.{Answer}
use Rattle.machine_master.specs.Answers.{is_whole}
use Rattle.bus.specs.declared.Passed.{Passed}
use Rattle.bus.specs.declared.PermissionChange.{PermissionChange}

-- of every move of a past, and of none
abbrev pub every : (Passed → Bool) → List Passed → Bool
every test [] = true
every test (e ∷ past) = test e && every test past

abbrev pub none : (Passed → Bool) → List Passed → Bool
none test past = every (λ e. not (test e)) past

abbrev pub some : (Passed → Bool) → List Passed → Bool
some test past = not (none test past)

-- the moves since the last of which a test holds, or since power-on
abbrev pub since : (Passed → Bool) → List Passed → List Passed
since test [] = []
since test (e ∷ past) = if_else (test e) [] (e ∷ since test past)

-- "Permitted: the application's last permission move said yes; before any it is no": the master's ..
abbrev pub master_said : Option PermissionChange → Bool → Bool
master_said None before = before
master_said (Some (PermissionChange.Master permitted)) before = permitted
master_said (Some (PermissionChange.Node node permitted)) before = before

abbrev pub master_permitted : List Passed → Bool
master_permitted [] = false
master_permitted (e ∷ past) = master_said e.permission (master_permitted past)

-- .. and a node's
abbrev pub node_said : ℕ → Option PermissionChange → Bool → Bool
node_said i None before = before
node_said i (Some (PermissionChange.Master permitted)) before = before
node_said i (Some (PermissionChange.Node node permitted)) before = if_else (eqb node i) permitted before

abbrev pub node_permitted : ℕ → List Passed → Bool
node_permitted i [] = false
node_permitted i (e ∷ past) = node_said i e.permission (node_permitted i past)

-- an answer that reached the master, and of which a test holds
abbrev pub arrives : (Row → Answer → Bool) → Option (Row × Answer) → Bool
arrives test None = false
arrives test (Some (row, a)) = test row a

abbrev pub is_answer : (Row → Answer → Bool) → Passed → Bool
is_answer test e = arrives test e.arrival

abbrev pub is_answer_of : ℕ → Passed → Bool
is_answer_of i e = is_answer (λ row a. eqb row.publisher i) e

-- "Any other that reached it is damaged"
abbrev pub is_damaged : Passed → Bool
is_damaged e = is_answer (λ row a. not (is_whole row a)) e

-- "Refusing: whole, permission bit 0"
abbrev pub is_refusing : Passed → Bool
is_refusing e = is_answer (λ row a. is_whole row a && not a.permission) e

-- "Permission truly given: permission bit 1, wake bit 0, and the node's application permitted when it was sent"
abbrev pub truly_given : ℕ → Answer → List Passed → Bool
truly_given i a before = a.permission && not a.wake && node_permitted i before

-- "Wake-up: a pulse that reached the master, its own ask to wake, or a whole answer with wake bit 1"
abbrev pub is_wake_up : Passed → Bool
is_wake_up e = is_answer (λ row a. is_whole row a && a.wake) e || e.woken

-- "A sleep message's sending is the move in which its ask is accepted"
abbrev pub is_sending : Passed → Bool
is_sending e = e.sending

-- "Stop: the tick that commands the clock off"
abbrev pub is_stop : Passed → Bool
is_stop e = e.tick && e.stop

-- the ticks of a past
abbrev pub ticks_in : List Passed → ℕ
ticks_in [] = 0
ticks_in (e ∷ past) = if_else e.tick (suc (ticks_in past)) (ticks_in past)

-- no tick that left the clock otherwise: on, or off
abbrev pub leaves_on : Passed → Bool
leaves_on e = not e.tick || e.clock

abbrev pub leaves_off : Passed → Bool
leaves_off e = not e.tick || not e.clock

-- an ask to wake, a node's or the master's
abbrev pub is_ask : Passed → Bool
is_ask e = e.asked

-- a sleep message that reached a node, "with the result"
abbrev pub is_result : Option Bool → Bool
is_result None = false
is_result (Some sent) = true

abbrev pub reaches : ℕ → Passed → Bool
reaches i e = is_result e.result && get_or e.slept i false

-- W-205: a sleep message's result, and one that was sent
abbrev pub has_result : Passed → Bool
has_result e = is_result e.result

abbrev pub was_sent : Option Bool → Bool
was_sent None = false
was_sent (Some sent) = sent

abbrev pub is_sent : Passed → Bool
is_sent e = was_sent e.result

-- the master's own no
abbrev pub says_no : Option PermissionChange → Bool
says_no None = false
says_no (Some (PermissionChange.Master permitted)) = not permitted
says_no (Some (PermissionChange.Node node permitted)) = false

-- "A call-back is a wake-up, a damaged or refusing answer, or the master's own no"
abbrev pub is_call_back : Passed → Bool
is_call_back e = is_wake_up e || is_damaged e || is_refusing e || says_no e.permission

-- the clock as the last tick left it; off before any
abbrev pub clock_left : List Passed → Bool
clock_left [] = false
clock_left (e ∷ past) = if_else e.tick e.clock (clock_left past)

-- a tick that left the clock on, when the one before had left it off
abbrev pub switches_on : Passed → List Passed → Bool
switches_on e before = e.tick && e.clock && not (clock_left before)

-- the moves since the tick that last switched the clock on
abbrev pub since_on : List Passed → List Passed
since_on [] = []
since_on (e ∷ past) = if_else (switches_on e past) [] (e ∷ since_on past)

-- the last answer of node i that reached the master
abbrev pub last_answer : ℕ → List Passed → Option (Row × Answer)
last_answer i [] = None
last_answer i (e ∷ past) = if_else (is_answer_of i e) e.arrival (last_answer i past)

-- the early part of a past that has at most n ticks
abbrev pub within : ℕ → List Passed → List Passed
within n [] = []
within n (e ∷ past) = if_else (leb (ticks_in (e ∷ past)) n) (e ∷ past) (within n past)
