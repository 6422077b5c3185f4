-- Who sends a wake-up pulse in a move, and messages that reach a set of nodes.
use Rattle.std.specs.Prelude.{ℕ, zero, suc, Bool, true, false, not, List, eqb, get_or}
use Rattle.base_lists.specs.Bounded.{if_else}
use Rattle.machine_node.specs.declared.Node.{Node}
use Rattle.machine_node.specs.declared.Command.{Command}
use Rattle.machine_node.specs.Waking.{pulse_step}
use Rattle.machine_node.specs.Sending.{sleep_message_step, request_step}
use Rattle.bus_nodes.specs.declared.Callers.{Callers}
use Rattle.bus_nodes.specs.declared.Message.{Message}
use Rattle.bus_nodes.specs.Each.{each_to}

-- one sender more
abbrev pub add_caller : Callers → ℕ → Callers
add_caller Callers.Nobody node = Callers.One node
add_caller (Callers.One other) node = Callers.Several
add_caller Callers.Several node = Callers.Several

-- those who sent a pulse, after a node's command
abbrev pub with_caller : Callers → ℕ → Command → Callers
with_caller callers node Command.Nothing = callers
with_caller callers node Command.Pulse = add_caller callers node
with_caller callers node (Command.Send permission wake count) = callers

-- those of the first n nodes whose command is a pulse
abbrev pub callers_to : (ℕ → Command) → ℕ → Callers
callers_to command zero = Callers.Nobody
callers_to command (suc n) = with_caller (callers_to command n) n (command n)

abbrev pub any_called : Callers → Bool
any_called Callers.Nobody = false
any_called (Callers.One caller) = true
any_called Callers.Several = true

-- a pulse of another: no machine hears its own
abbrev pub other_called : Callers → ℕ → Bool
other_called Callers.Nobody me = false
other_called (Callers.One caller) me = not (eqb caller me)
other_called Callers.Several me = true

-- what a message that reaches node `me` does there; a master sends a sleep message only where machines sleep
abbrev pub receive : Message → ℕ → Node → Node
receive (Message.Pulse callers) me n = if_else (other_called callers me) (pulse_step n).node n
receive (Message.Request row) me n = (request_step me row n).node
receive Message.SleepMessage me n = (sleep_message_step true n).node

abbrev pub receive_if : Bool → Message → ℕ → Node → Node
receive_if reached message me n = if_else reached (receive message me n) n

-- "reaches any set of nodes"
abbrev pub reach_all : Message → List Bool → ℕ → List Node → List Node
reach_all message reached count nodes = each_to (λ k n. receive_if (get_or reached k false) message k n) count nodes
