-- The sleep message: its ask and its result.
use Rattle.std.specs.Prelude.{ℕ, Bool, true, false, not, List, nat_lt, slice_index_or}
use Rattle.base_lists.specs.Bounded.{if_else, first_to}
use Rattle.machine_state.specs.declared.State.{State}
use Rattle.machine_master.specs.declared.Phase.{Phase}
use Rattle.machine_master.specs.declared.Hold.{Hold}
use Rattle.machine_master.specs.declared.Command.{Command}
use Rattle.machine_master.specs.declared.Master.{Master}
use Rattle.machine_master.specs.declared.Reply.{Reply}
use Rattle.machine_master.specs.Changes.{no_hold, in_phase, silent, commands, refuse}

unfoldable pub not_held : List Hold → ℕ → Bool
not_held holds node = not (slice_index_or holds node no_hold).held

-- 20: "a node's permission is not held", and "names the lowest such node"
abbrev pub missing : ℕ → Master → Reply
missing node m = record { master = m; command = Command.Nothing; refusal = 20; node = node; lost = 0 }

-- "then 19, 20; else command the message, go Sending"
abbrev pub open_ask : ℕ → Master → Reply
open_ask nodecount m =
    if_else m.permission
    (if_else (nat_lt (first_to (not_held m.holds) nodecount) nodecount)
    (missing (first_to (not_held m.holds) nodecount) m)
    (commands Command.SleepMessage (in_phase Phase.Sending m)))
    (refuse m 19)

-- "Sleep ask (Normal): 18 unless Open"; W-206: 25, "sleep ask .. under this profile, right after 16"
abbrev pub sleep_ask_by : ℕ → State → Bool → Phase → Master → Reply
sleep_ask_by nodecount State.Normal true Phase.Open m = open_ask nodecount m
sleep_ask_by nodecount State.Normal true Phase.Sending m = refuse m 18
sleep_ask_by nodecount State.Normal true Phase.Withdrawn m = refuse m 18
sleep_ask_by nodecount State.Normal true Phase.Closing m = refuse m 18
sleep_ask_by nodecount State.Normal false phase m = refuse m 25
sleep_ask_by nodecount State.Standby sleeps phase m = refuse m 16
sleep_ask_by nodecount State.Sleep sleeps phase m = refuse m 16

abbrev pub sleep_ask_step : Bool → ℕ → Master → Reply
sleep_ask_step sleeps nodecount m = sleep_ask_by nodecount m.state sleeps m.phase m

-- "Send result (Normal; 17 unless Sending or Withdrawn): Withdrawn goes Open; Sending goes Closing if sent, Open if failed"
abbrev pub send_result_by : Bool → State → Phase → Master → Reply
send_result_by sent State.Normal Phase.Open m = refuse m 17
send_result_by true State.Normal Phase.Sending m = silent (in_phase Phase.Closing m)
send_result_by false State.Normal Phase.Sending m = silent (in_phase Phase.Open m)
send_result_by sent State.Normal Phase.Withdrawn m = silent (in_phase Phase.Open m)
send_result_by sent State.Normal Phase.Closing m = refuse m 17
send_result_by sent State.Standby phase m = refuse m 16
send_result_by sent State.Sleep phase m = refuse m 16

abbrev pub send_result_step : Bool → Master → Reply
send_result_step sent m = send_result_by sent m.state m.phase m
