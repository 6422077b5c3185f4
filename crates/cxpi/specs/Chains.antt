-- Calls one after the other on one state, and the machine's steps that they are.
use Rattle.std.specs.Prelude.{ℕ, List, [], ◌∷◌}
use Rattle.set_plan.specs.declared.Plan.{Plan}
use Rattle.machine_master.specs.declared.Master.{Master}
use Rattle.machine_master.specs.declared.Event as MasterEvent
use Rattle.machine_master.specs.Step.{master_step}
use Rattle.machine_node.specs.declared.Node.{Node}
use Rattle.machine_node.specs.declared.Event as NodeEvent
use Rattle.machine_node.specs.Step.{node_step}
use Rattle.cxpi.specs.MasterCalls.{master_reply, master_leaves}
use Rattle.cxpi.specs.NodeCalls.{node_reply, node_leaves}

-- the state's bytes after calls with the bytes of these events, refused ones included
unfoldable pub master_calls : List ℕ → ℕ → List ℕ → List (List ℕ) → List ℕ
master_calls plan room state [] = state
master_calls plan room state (event ∷ events) = master_calls plan room (master_leaves (master_reply plan state event room) state) events

unfoldable pub node_calls : List ℕ → ℕ → ℕ → List ℕ → List (List ℕ) → List ℕ
node_calls plan me room state [] = state
node_calls plan me room state (event ∷ events) = node_calls plan me room (node_leaves (node_reply plan me state event room) state) events

-- the machine after these events, refused ones included
unfoldable pub master_run : Plan → Master → List MasterEvent.Event → Master
master_run p m [] = m
master_run p m (e ∷ events) = master_run p (master_step p m e).master events

unfoldable pub node_run : Plan → ℕ → Node → List NodeEvent.Event → Node
node_run p me n [] = n
node_run p me n (e ∷ events) = node_run p me (node_step p me n e).node events
