-- The lines that the drill prints.
use Rattle.std.specs.Prelude.{ℕ, zero, suc, ◌+◌, ◌%◌, ◌^◌, List, [], ◌∷◌, ◌++◌, Bool}
use Rattle.base_lists.specs.Bounded.{if_else}
use Rattle.machine_state.specs.declared.State.{State}
use Rattle.machine_master.specs.declared.Master.{Master}
use Rattle.machine_master.specs.declared.Phase.{Phase}
use Rattle.machine_node.specs.declared.Node.{Node}
use Rattle.set_plan.specs.declared.Plan.{Plan}
use Rattle.bus.specs.declared.Moved.{Moved}
use Rattle.bus.specs.declared.World.{World}
use Rattle.bus_nodes.specs.Nodes.{node_at, nodes_used}
use Rattle.base_text.specs.Text.{ascii, decimal}

-- "state (N, S, Z)": Normal, Standby and Sleep
abbrev pub state_letter : State → ℕ
state_letter State.Normal = 0x4e
state_letter State.Standby = 0x53
state_letter State.Sleep = 0x5a

-- "0 Open, 1 Sending, 2 Withdrawn, 3 Closing"
abbrev pub phase_digit : Phase → ℕ
phase_digit Phase.Open = 0x30
phase_digit Phase.Sending = 0x31
phase_digit Phase.Withdrawn = 0x32
phase_digit Phase.Closing = 0x33

-- "The clock is on exactly in Normal"
abbrev pub clock_digit : State → ℕ
clock_digit State.Normal = 0x31
clock_digit State.Standby = 0x30
clock_digit State.Sleep = 0x30

-- state with phase, and clock, between spaces
abbrev pub status_text : Master → List ℕ
status_text master = 0x20 ∷ state_letter master.state ∷ phase_digit master.phase ∷ 0x20 ∷ clock_digit master.state ∷ 0x20 ∷ []

-- "one letter per node, `!` after it for error"
unfoldable pub node_text : State → Bool → List ℕ
node_text state error = if_else error (state_letter state ∷ ascii "!") (state_letter state ∷ [])

-- the first n nodes, one word
unfoldable pub nodes_text : List Node → ℕ → List ℕ
nodes_text nodes zero = []
nodes_text nodes (suc n) = nodes_text nodes n ++ node_text (node_at nodes n).state (node_at nodes n).error

-- the word behind the nodes, and the line's end
unfoldable pub refusal_text : ℕ → List ℕ
refusal_text refusal = ascii " " ++ decimal refusal ++ ascii "\n"

-- "number from 1; master state (N, S, Z) with phase; clock; one letter per node, `!` after it for error; refusal or 0"
unfoldable pub move_line : ℕ → World → ℕ → ℕ → List ℕ
move_line number world nodecount refusal =
    decimal number ++ status_text world.master ++ nodes_text world.nodes (nodes_used nodecount) ++ refusal_text refusal

-- the line of what a move gave
abbrev pub moved_line : Plan → ℕ → Moved → List ℕ
moved_line plan number moved = move_line number moved.world plan.nodecount moved.refusal

-- "its number and `?`"
unfoldable pub bad_line : ℕ → List ℕ
bad_line number = decimal number ++ ascii " ?\n"

-- "number from 1": the number of the line after so many, of 64 bits
abbrev pub next_line : ℕ → ℕ
next_line lines = (lines + 1) % 2 ^ 64
