-- Each term of demand 3 and of W-205 on a computed list on which it is true, and on one a move or a tick away on which it is not.
use Rattle.std.specs.Prelude.{Option, Some, None}
use mathlib.Core.Path.{◌≡◌, refl}
use mathlib.Core.Bool.{Bool, true, false}
use mathlib.Core.List.{List, [], ◌∷◌, ◌++◌}
use Rattle.base_lists.specs.Bounded.{any_to, first_to, tab}
use Rattle.set_plan.specs.Find.{has_reqid, row_among, find_row}
use Rattle.machine_master.specs.Sleeping.{not_held}
use Rattle.machine_master.specs.Ticks.{all_older}
use Rattle.set_plan.specs.declared.Row.{Row}
use Rattle.machine_master.specs.declared.Answer.{Answer}
use Rattle.bus.specs.declared.Act.{Act}
use Rattle.bus.specs.declared.Move.{Move}
use Rattle.bus.specs.declared.Passed.{Passed}
use Rattle.bus.specs.Passed.{nothing}
use Rattle.bus_history.specs.Examples.{plan, lossless, does, ticks, permitting, answering, asking, result, stopping, damaged, calling, waking}
use Rattle.bus_history.specs.Run.{run}
use Rattle.bus_history.specs.Terms.{every, none, master_permitted, node_permitted, is_answer_of, is_damaged, is_refusing, truly_given, is_wake_up, is_sending, is_stop, ticks_in, leaves_on, leaves_off, is_ask, reaches, some, since, has_result, is_sent, is_call_back, clock_left, since_on, last_answer, within}

-- what passed in the last move of a list, under the first plan
abbrev last : List Move → Passed
last moves = go (run plan moves).past
  where
    go : List Passed → Passed
    go [] = nothing
    go (e ∷ past) = e

abbrev past : List Move → List Passed
past moves = (run plan moves).past

-- "Permitted": the last permission move counts, and before any it is no; a node's is that node's
permits :
    (master_permitted (past permitting) ≡ true)
    × (master_permitted (past (does (Act.MasterPermission true) ∷ does (Act.MasterPermission false) ∷ [])) ≡ false)
    × (master_permitted (past (does (Act.NodePermission 0 true) ∷ [])) ≡ false)
    × (master_permitted [] ≡ false)
    × (node_permitted 0 (past (does (Act.NodePermission 0 true) ∷ [])) ≡ true)
    × (node_permitted 1 (past (does (Act.NodePermission 0 true) ∷ [])) ≡ false)
    × (node_permitted 0 (past (does (Act.NodePermission 0 true) ∷ does (Act.NodePermission 0 false) ∷ [])) ≡ false)
    × (node_permitted 0 (past (does (Act.MasterPermission true) ∷ [])) ≡ false)
unfolding find_row row_among has_reqid first_to any_to not_held all_older tab
permits = (refl, refl, refl, refl, refl, refl, refl, refl)

-- an answer of a node, "damaged" or "refusing" or neither
answers :
    (is_answer_of 1 (last answering) ≡ true)
    × (is_answer_of 0 (last answering) ≡ false)
    × (is_answer_of 1 (last permitting) ≡ false)
    × (is_damaged (last (answering ++ (damaged ∷ []))) ≡ true)
    × (is_damaged (last answering) ≡ false)
    × (is_damaged (last permitting) ≡ false)
    × (is_refusing (last (answering ++ (does (Act.NodePermission 1 false) ∷ does (Act.Request 2) ∷ []))) ≡ true)
    × (is_refusing (last answering) ≡ false)
    × (is_refusing (last (answering ++ (damaged ∷ []))) ≡ false)
    × (is_refusing (last permitting) ≡ false)
unfolding find_row row_among has_reqid first_to any_to not_held all_older tab
answers = (refl, refl, refl, refl, refl, refl, refl, refl, refl, refl)

-- "Wake-up": a pulse that reached the master, in a tick too, its own ask, a whole answer with the wake bit; and no other
wakes :
    (is_wake_up (last (does (Act.NodeWakeAsk 0) ∷ [])) ≡ true)
    × (is_wake_up (last (calling 0)) ≡ false)
    × (is_wake_up (last (calling 1 ++ ticks 1 lossless)) ≡ true)
    × (is_wake_up (last (calling 2)) ≡ false)
    × (is_wake_up (last (does Act.MasterWakeAsk ∷ [])) ≡ true)
    × (is_wake_up (last (permitting ++ (does (Act.Request 1) ∷ []))) ≡ true)
    × (is_wake_up (last (permitting ++ (does (Act.Request 1) ∷ does (Act.Request 1) ∷ []))) ≡ false)
    × (is_wake_up (last permitting) ≡ false)
    × (is_wake_up (last asking) ≡ false)
    × (is_wake_up (last (answering ++ (damaged ∷ []))) ≡ false)
unfolding find_row row_among has_reqid first_to any_to not_held all_older tab
wakes = (refl, refl, refl, refl, refl, refl, refl, refl, refl, refl)

-- a sending is the move in which the sleep ask is accepted
sends :
    (is_sending (last asking) ≡ true)
    × (is_sending (last (permitting ++ (does Act.SleepAsk ∷ []))) ≡ false)
    × (is_sending (last (asking ++ (result true true ∷ []))) ≡ false)
    × (is_sending (last answering) ≡ false)
unfolding find_row row_among has_reqid first_to any_to not_held all_older tab
sends = (refl, refl, refl, refl)

-- "Stop: the tick that commands the clock off"
stops :
    (is_stop (last stopping) ≡ true)
    × (is_stop (last (asking ++ (result true true ∷ ticks 1 lossless))) ≡ false)
    × (is_stop (last (stopping ++ ticks 1 lossless)) ≡ false)
unfolding find_row row_among has_reqid first_to any_to not_held all_older tab
stops = (refl, refl, refl)

-- the clock as a tick left it; the tick that switches it counts
clocks :
    (leaves_off (last stopping) ≡ true)
    × (leaves_on (last stopping) ≡ false)
    × (leaves_off (last (asking ++ (result true true ∷ ticks 1 lossless))) ≡ false)
    × (leaves_off (last (stopping ++ ticks 1 lossless)) ≡ true)
    × (leaves_on (last (waking 1)) ≡ true)
    × (leaves_off (last (waking 1)) ≡ false)
    × (leaves_on (last (ticks 1 lossless)) ≡ false)
    × (leaves_on (last (waking 0)) ≡ true)
    × (leaves_off (last (waking 0)) ≡ true)
unfolding find_row row_among has_reqid first_to any_to not_held all_older tab
clocks = (refl, refl, refl, refl, refl, refl, refl, refl, refl)

-- asks to wake, heard or not, a node's or the master's; and no other move
asks :
    (is_ask (last (does (Act.NodeWakeAsk 0) ∷ [])) ≡ true)
    × (is_ask (last (calling 0)) ≡ true)
    × (is_ask (last (does Act.MasterWakeAsk ∷ [])) ≡ true)
    × (is_ask (last (does (Act.NodePermission 0 true) ∷ [])) ≡ false)
    × (is_ask (last (does (Act.MasterPermission true) ∷ [])) ≡ false)
    × (is_ask (last asking) ≡ false)
    × (is_ask (last (asking ++ (result true true ∷ []))) ≡ false)
    × (is_ask (last (calling 2)) ≡ false)
    × (is_ask (last answering) ≡ false)
unfolding find_row row_among has_reqid first_to any_to not_held all_older tab
asks = (refl, refl, refl, refl, refl, refl, refl, refl, refl)

-- nodes that a sleep message reached: none without it, and none of a refused result
reached :
    (reaches 1 (last (asking ++ (result true true ∷ []))) ≡ true)
    × (reaches 1 (last (asking ++ (result false true ∷ []))) ≡ true)
    × (reaches 1 (last (asking ++ (result true false ∷ []))) ≡ false)
    × (reaches 1 (last asking) ≡ false)
    × (reaches 1 (last (answering ++ (result true true ∷ []))) ≡ false)
    × (reaches 16 (last (asking ++ (result true true ∷ []))) ≡ false)
unfolding find_row row_among has_reqid first_to any_to not_held all_older tab
reached = (refl, refl, refl, refl, refl, refl)

-- ticks, and tests of every move and of none
counted :
    (ticks_in (past stopping) ≡ 3)
    × (ticks_in (past asking) ≡ 1)
    × (every leaves_on (past asking) ≡ true)
    × (every leaves_on (past stopping) ≡ false)
    × (none is_stop (past asking) ≡ true)
    × (none is_stop (past stopping) ≡ false)
unfolding find_row row_among has_reqid first_to any_to not_held all_older tab
counted = (refl, refl, refl, refl, refl, refl)

-- "Permission truly given": permission bit 1, wake bit 0, and the application's permission
abbrev answer : Bool → Bool → Answer
answer permission wake = record { reqid = 1; result = 0; length = 2; count = 0; permission = permission; wake = wake }

gives :
    (truly_given 0 (answer true false) (past permitting) ≡ true)
    × (truly_given 0 (answer false false) (past permitting) ≡ false)
    × (truly_given 0 (answer true true) (past permitting) ≡ false)
    × (truly_given 0 (answer true false) (past (permitting ++ (does (Act.NodePermission 0 false) ∷ []))) ≡ false)
unfolding find_row row_among has_reqid first_to any_to not_held all_older tab
gives = (refl, refl, refl, refl)

-- W-205: call-backs, and results
backs :
    (is_call_back (last (does Act.MasterWakeAsk ∷ [])) ≡ true)
    × (is_call_back (last (answering ++ (damaged ∷ []))) ≡ true)
    × (is_call_back (last (answering ++ (does (Act.NodePermission 1 false) ∷ does (Act.Request 2) ∷ []))) ≡ true)
    × (is_call_back (last (does (Act.MasterPermission false) ∷ [])) ≡ true)
    × (is_call_back (last (does (Act.MasterPermission true) ∷ [])) ≡ false)
    × (is_call_back (last (does (Act.NodePermission 0 false) ∷ [])) ≡ false)
    × (is_call_back (last answering) ≡ false)
    × (is_call_back (last (answering ++ ticks 1 lossless)) ≡ false)
unfolding find_row row_among has_reqid first_to any_to not_held all_older tab
backs = (refl, refl, refl, refl, refl, refl, refl, refl)

results :
    (has_result (last (asking ++ (result true true ∷ []))) ≡ true)
    × (has_result (last (asking ++ (result false true ∷ []))) ≡ true)
    × (is_sent (last (asking ++ (result true true ∷ []))) ≡ true)
    × (is_sent (last (asking ++ (result false true ∷ []))) ≡ false)
    × (has_result (last asking) ≡ false)
    × (has_result (last (answering ++ (result true true ∷ []))) ≡ false)
unfolding find_row row_among has_reqid first_to any_to not_held all_older tab
results = (refl, refl, refl, refl, refl, refl)

-- the clock that the last tick left, and the moves since it was last switched on; a sending and those since
lefts :
    (clock_left [] ≡ false)
    × (clock_left (past (does Act.MasterWakeAsk ∷ [])) ≡ false)
    × (clock_left (past (waking 1)) ≡ true)
    × (clock_left (past stopping) ≡ false)
    × (ticks_in (since_on (past (waking 3))) ≡ 2)
    × (ticks_in (since_on (past (stopping ++ (does Act.MasterWakeAsk ∷ ticks 3 lossless)))) ≡ 2)
    × (some is_sending (past answering) ≡ false)
    × (some is_sending (past stopping) ≡ true)
    × (ticks_in (since is_sending (past stopping)) ≡ 2)
unfolding find_row row_among has_reqid first_to any_to not_held all_older tab
lefts = (refl, refl, refl, refl, refl, refl, refl, refl, refl)

-- the last answer of a node, and the part within a window of the moves since
abbrev bit : Option (Row × Answer) → Bool
bit None = false
bit (Some (row, a)) = a.permission

lasts :
    (bit (last_answer 0 (past answering)) ≡ true)
    × (bit (last_answer 0 (past permitting)) ≡ false)
    × (bit (last_answer 1 (past (answering ++ (does (Act.NodePermission 1 false) ∷ does (Act.Request 2) ∷ [])))) ≡ false)
    × (ticks_in (within 3 (past (waking 3))) ≡ 3)
    × (ticks_in (within 3 (past (waking 4))) ≡ 3)
    × (ticks_in (within 2 (past (waking 3))) ≡ 2)
unfolding find_row row_among has_reqid first_to any_to not_held all_older tab
lasts = (refl, refl, refl, refl, refl, refl)
