-- A state's test, and the state that a machine starts in.
use Rattle.std.specs.Prelude.{Bool, true, false}
use Rattle.base_lists.specs.Bounded.{if_else}
use Rattle.machine_state.specs.declared.State.{State}

abbrev pub is_normal : State → Bool
is_normal State.Normal = true
is_normal State.Standby = false
is_normal State.Sleep = false

-- "Power-on: Sleep"; W-206: machines that never sleep "start in Normal"
abbrev pub start_state : Bool → State
start_state sleeps = if_else sleeps State.Sleep State.Normal
