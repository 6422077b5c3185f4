-- A node's messages.
use Rattle.set_plan.specs.declared.Row.{Row}
use Rattle.std.specs.Prelude.{ℕ, Bool, eqb, get_or, Option, Some, None}
use Rattle.base_lists.specs.Bounded.{if_else}
use Rattle.machine_state.specs.declared.State.{State}
use Rattle.machine_node.specs.declared.Command.{Command}
use Rattle.machine_node.specs.declared.Node.{Node}
use Rattle.machine_node.specs.declared.Reply.{Reply}
use Rattle.machine_node.specs.Changes.{with_heard, with_delay, after_sending, silent, refuse}

-- 16: "event needs Normal"
abbrev pub in_normal : State → Node → Reply → Reply
in_normal State.Normal n reply = reply
in_normal State.Standby n reply = refuse n 16
in_normal State.Sleep n reply = refuse n 16

-- "Sleep message (Normal): delay restarts at 0"; W-206: 25, "sleep message under this profile, right after 16"
abbrev pub sleep_message_step : Bool → Node → Reply
sleep_message_step sleeps n = in_normal n.state n (if_else sleeps (silent (with_delay (Some 0) n)) (refuse n 25))

-- "Sending gives permission, wake bit, count"
abbrev pub send_step : ℕ → Node → Reply
send_step reqid n =
    record { node = after_sending reqid n; command = Command.Send n.permission n.wake (get_or n.counts reqid 0); refusal = 0 }

-- "Request (Normal, 12): heard; if the row is its own, send"
abbrev pub request_row : ℕ → Option Row → Node → Reply
request_row me None n = refuse n 12
request_row me (Some row) n = if_else (eqb row.publisher me) (send_step row.reqid (with_heard n)) (silent (with_heard n))

abbrev pub request_step : ℕ → Option Row → Node → Reply
request_step me row n = in_normal n.state n (request_row me row n)

-- "a polled node not heard is refused 21 (8.9)"
abbrev pub send_own : Bool → ℕ → Node → Reply
send_own polled reqid n = if_else polled (if_else n.heard (send_step reqid n) (refuse n 21)) (send_step reqid n)

-- "Ask to send (Normal, 12)", 12 for "another's row in an ask to send" too
abbrev pub send_ask_row : ℕ → Bool → Option Row → Node → Reply
send_ask_row me polled None n = refuse n 12
send_ask_row me polled (Some row) n = if_else (eqb row.publisher me) (send_own polled row.reqid n) (refuse n 12)

abbrev pub send_ask_step : ℕ → Bool → Option Row → Node → Reply
send_ask_step me polled row n = in_normal n.state n (send_ask_row me polled row n)
