-- Nodes that a tick or a message leaves as they are: the code does not copy them.
use Rattle.set_plan.specs.declared.Row.{Row}
use Rattle.std.specs.Prelude.{ℕ, Bool, true, false, not, ◌&&◌, ◌||◌, eqb, Option, Some, None}
use Rattle.machine_state.specs.declared.State.{State}
use Rattle.machine_state.specs.State.{is_normal}
use Rattle.machine_node.specs.declared.Node.{Node}
use Rattle.bus_nodes.specs.declared.Message.{Message}

-- in Normal with clock and nothing to clear or to count, or asleep without clock
abbrev pub rests_by : Bool → State → Option ℕ → Node → Bool
rests_by clock State.Normal None n = clock && not n.error && eqb n.quiet 0
rests_by clock State.Normal (Some ticks) n = false
rests_by clock State.Standby delay n = false
rests_by clock State.Sleep delay n = not clock

-- a tick leaves the node as it is (rests_still in proofs/Resting.antt)
abbrev pub rests : Bool → Node → Bool
rests clock n = rests_by clock n.state n.delay n

-- a request in Normal: of no row, or of another's after one was heard
abbrev pub ignores_row : Option Row → ℕ → Node → Bool
ignores_row None me n = true
ignores_row (Some row) me n = n.heard && not (eqb row.publisher me)

-- a message that reaches node `me` leaves it as it is (ignores_still in proofs/Resting.antt)
abbrev pub ignores : Message → ℕ → Node → Bool
ignores (Message.Pulse callers) me n = is_normal n.state
ignores (Message.Request row) me n = not (is_normal n.state) || ignores_row row me n
ignores Message.SleepMessage me n = not (is_normal n.state)

-- a message leaves the node as it is, whether it reaches it or not
abbrev pub untouched : Bool → Message → ℕ → Node → Bool
untouched reached message me n = not reached || ignores message me n
