-- Requests, answers and the sleep message on the bus.
use Rattle.std.specs.Prelude.{ℕ, Bool, true, false, not, ◌&&◌, List, leb, ltb, eqb, get_or, set, Option, Some, None}
use Rattle.base_lists.specs.Bounded.{if_else}
use Rattle.machine_state.specs.declared.State.{State}
use Rattle.machine_state.specs.State.{is_normal}
use Rattle.set_plan.specs.declared.Plan.{Plan}
use Rattle.set_plan.specs.declared.Row.{Row}
use Rattle.set_plan.specs.Limits.{reqids, seq_counts}
use Rattle.set_plan.specs.Answering.{is_polled, is_variable}
use Rattle.set_plan.specs.Find.{find_row}
use Rattle.machine_node.specs.declared.Node.{Node}
use Rattle.machine_node.specs.declared.Command as NodeCommand
use Rattle.machine_node.specs.declared.Reply as NodeReply
use Rattle.machine_node.specs.Sending.{request_step, send_ask_step}
use Rattle.machine_master.specs.declared.Answer.{Answer}
use Rattle.machine_master.specs.declared.Master.{Master}
use Rattle.machine_master.specs.declared.Command as MasterCommand
use Rattle.machine_master.specs.declared.Reply as MasterReply
use Rattle.machine_master.specs.Answers.{answer_step}
use Rattle.machine_master.specs.Sleeping.{sleep_ask_step, send_result_step}
use Rattle.bus.specs.declared.Bus.{Bus}
use Rattle.bus.specs.declared.Delivered.{Delivered}
use Rattle.bus.specs.declared.Fate.{Fate}
use Rattle.bus_nodes.specs.declared.Message.{Message}
use Rattle.bus.specs.declared.Moved.{Moved}
use Rattle.bus.specs.declared.Passed.{Passed}
use Rattle.bus.specs.declared.World.{World}
use Rattle.bus.specs.Applications.{of_node}
use Rattle.bus_nodes.specs.Pulses.{reach_all}
use Rattle.bus.specs.Passed.{nothing, answered, sending, slept}
use Rattle.bus_nodes.specs.Nodes.{node_at}
use Rattle.bus.specs.World.{with_master, with_nodes, stays}

-- "damaged (result not 0, ReqId kept, count still 0 to 3)"
abbrev pub fate_right : Fate → Bool
fate_right (Fate.Whole length) = true
fate_right (Fate.Damaged damage) = not (eqb damage.result 0) && ltb damage.count seq_counts
fate_right Fate.Lost = true

-- 15 for no such move; "Without clock no request, answer or sleep message moves", 16
abbrev pub message_refusal : ℕ → Fate → State → ℕ
message_refusal reqid fate master = if_else (ltb reqid reqids) (if_else (fate_right fate) (if_else (is_normal master) 0 16) 15) 15

-- W-207, "an answer of a variable row may be sent with any length up to the row's"; a fixed row's is its own
abbrev pub sent_length : Row → ℕ → ℕ
sent_length row length = if_else (is_variable row && leb length row.length) length row.length

-- "an answer reaches the master whole, damaged .. or not at all"
abbrev pub carried : Fate → Row → NodeCommand.Command → Option (Row × Answer)
carried fate row NodeCommand.Command.Nothing = None
carried fate row NodeCommand.Command.Pulse = None
carried (Fate.Whole length) row (NodeCommand.Command.Send permission wake count) =
    Some (row, record { reqid = row.reqid; result = 0; length = sent_length row length; count = count; permission = permission; wake = wake })
carried (Fate.Damaged damage) row (NodeCommand.Command.Send permission wake count) =
    Some (row, record { reqid = row.reqid; result = damage.result; length = damage.length; count = damage.count; permission = damage.permission; wake = damage.wake })
carried Fate.Lost row (NodeCommand.Command.Send permission wake count) = None

-- nothing reaches the master
abbrev pub unanswered : Master → ℕ → Delivered
unanswered m refusal = record { master = m; refusal = refusal; passed = nothing }

abbrev pub answered_by : Row → Answer → MasterReply.Reply → Delivered
answered_by row a reply = record { master = reply.master; refusal = reply.refusal; passed = answered row a }

abbrev pub arrive : Master → Option (Row × Answer) → Delivered
arrive m None = unanswered m 0
arrive m (Some (row, a)) = answered_by row a (answer_step (Some row) a m)

-- a publisher's reply goes on to the master: "The refusal .. is the acting or publishing machine's, else the master's"
abbrev pub deliver : Row → Fate → NodeReply.Reply → Master → Delivered
deliver row fate reply m = if_else (not (eqb reply.refusal 0)) (unanswered m reply.refusal) (arrive m (carried fate row reply.command))

-- with the nodes as they are then
abbrev pub delivered_in : List Node → Delivered → Moved
delivered_in nodes d = record { world = record { master = d.master; nodes = nodes }; refusal = d.refusal; passed = d.passed }

-- the publisher's reply to a request that reached it, and the others that it reaches
abbrev pub request_by : ℕ → Row → Bus → World → NodeReply.Reply → Moved
request_by count row bus w reply =
    delivered_in
    (reach_all (Message.Request (Some row)) (set bus.reached row.publisher false) count (set w.nodes row.publisher reply.node))
    (deliver row bus.fate reply w.master)

-- "A request reaches any set of nodes"; "A master's row .. is heard and brings no answer"
abbrev pub publish : ℕ → Row → Bus → World → Moved
publish count row bus w =
    if_else (ltb row.publisher count && get_or bus.reached row.publisher false)
    (request_by count row bus w (request_step row.publisher (Some row) (node_at w.nodes row.publisher)))
    (stays (with_nodes (reach_all (Message.Request (Some row)) bus.reached count w.nodes) w) 0)

-- "then a ReqId not in the plan gives 12"
abbrev pub publish_found : ℕ → Bus → World → Option Row → Moved
publish_found count bus w None = stays w 12
publish_found count bus w (Some row) = publish count row bus w

abbrev pub judged_message : ℕ → World → Moved → Moved
judged_message refusal w o = if_else (not (eqb refusal 0)) (stays w refusal) o

abbrev pub request_move : Plan → ℕ → ℕ → Bus → World → Moved
request_move p count reqid bus w = judged_message (message_refusal reqid bus.fate w.master.state) w (publish_found count bus w (find_row p reqid))

abbrev pub sent_by : ℕ → Row → Fate → World → NodeReply.Reply → Moved
sent_by node row fate w reply = delivered_in (set w.nodes node reply.node) (deliver row fate reply w.master)

-- a node's own sending of a row, which no other node hears
abbrev pub send_row : ℕ → Bool → Row → Fate → World → Moved
send_row node polled row fate w = sent_by node row fate w (send_ask_step node polled (Some row) (node_at w.nodes node))

abbrev pub send_ask_by : ℕ → Bool → Fate → World → Option Row → Moved
send_ask_by node polled fate w None = stays w 12
send_ask_by node polled fate w (Some row) = send_row node polled row fate w

abbrev pub send_ask_move : Plan → ℕ → ℕ → ℕ → Bus → World → Moved
send_ask_move p count node reqid bus w =
    of_node count node w
    (judged_message (message_refusal reqid bus.fate w.master.state) w (send_ask_by node (is_polled p node) bus.fate w (find_row p reqid)))

-- "A sleep message's sending is the move in which its ask is accepted"
abbrev pub sending_by : MasterCommand.Command → Passed
sending_by MasterCommand.Command.Nothing = nothing
sending_by MasterCommand.Command.ClockOn = nothing
sending_by MasterCommand.Command.ClockOff = nothing
sending_by MasterCommand.Command.SleepMessage = sending

abbrev pub sleep_ask_after : World → MasterReply.Reply → Moved
sleep_ask_after w reply = record { world = with_master reply.master w; refusal = reply.refusal; passed = sending_by reply.command }

abbrev pub sleep_ask_move : Bool → ℕ → World → Moved
sleep_ask_move sleeps nodecount w = sleep_ask_after w (sleep_ask_step sleeps nodecount w.master)

-- "it then awaits its result and reaches any set of nodes with the result"; "a refused `sent` reaches nobody"
abbrev pub result_after : ℕ → Bool → Bus → World → MasterReply.Reply → Moved
result_after count sent bus w reply =
    if_else (not (eqb reply.refusal 0)) (stays w reply.refusal)
    (record {
      world = record { master = reply.master; nodes = reach_all Message.SleepMessage bus.reached count w.nodes };
      refusal = 0;
      passed = slept sent bus.reached;
    })

abbrev pub send_result_move : ℕ → Bool → Bus → World → Moved
send_result_move count sent bus w = result_after count sent bus w (send_result_step sent w.master)
