-- What passed in a move, as facts: demand 3 is told by these alone.
use Rattle.std.specs.Prelude.{ℕ, Bool, true, false, List, replicate, Some, None}
use Rattle.set_plan.specs.declared.Row.{Row}
use Rattle.set_plan.specs.Limits.{max_nodes}
use Rattle.machine_master.specs.declared.Answer.{Answer}
use Rattle.bus.specs.declared.Passed.{Passed}
use Rattle.bus.specs.declared.PermissionChange.{PermissionChange}

abbrev pub nothing : Passed
nothing =
    record { tick = false; clock = false; stop = false; asked = false; woken = false; permission = None; arrival = None; sending = false; result = None; slept = replicate max_nodes false }

-- a tick: the clock after it, whether it commanded the clock off, whether a pulse then reached the master
abbrev pub ticked : Bool → Bool → Bool → Passed
ticked clock stop woken =
    record { tick = true; clock = clock; stop = stop; asked = false; woken = woken; permission = None; arrival = None; sending = false; result = None; slept = replicate max_nodes false }

-- an ask to wake, and whether it woke the master: its own, or a pulse that reached it
abbrev pub asked : Bool → Passed
asked woken =
    record { tick = false; clock = false; stop = false; asked = true; woken = woken; permission = None; arrival = None; sending = false; result = None; slept = replicate max_nodes false }

-- a permission that an application gave or took back
abbrev pub permission_changed : PermissionChange → Passed
permission_changed permission =
    record { tick = false; clock = false; stop = false; asked = false; woken = false; permission = Some permission; arrival = None; sending = false; result = None; slept = replicate max_nodes false }

abbrev pub master_permits : Bool → Passed
master_permits permitted = permission_changed (PermissionChange.Master permitted)

abbrev pub node_permits : ℕ → Bool → Passed
node_permits node permitted = permission_changed (PermissionChange.Node node permitted)

-- an answer that reached the master, and its row
abbrev pub answered : Row → Answer → Passed
answered row a =
    record { tick = false; clock = false; stop = false; asked = false; woken = false; permission = None; arrival = Some (row, a); sending = false; result = None; slept = replicate max_nodes false }

-- a sleep message's sending: "the move in which its ask is accepted"
abbrev pub sending : Passed
sending =
    record { tick = false; clock = false; stop = false; asked = false; woken = false; permission = None; arrival = None; sending = true; result = None; slept = replicate max_nodes false }

-- a sleep message with its result, and the nodes it reached
abbrev pub slept : Bool → List Bool → Passed
slept sent nodes =
    record { tick = false; clock = false; stop = false; asked = false; woken = false; permission = None; arrival = None; sending = false; result = Some sent; slept = nodes }
