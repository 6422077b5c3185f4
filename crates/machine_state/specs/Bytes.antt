-- States, flags and tables of counts as bytes.
use Rattle.std.specs.Prelude.{ℕ, ◌+◌, List, Bool, true, false, eqb}
use Rattle.base_lists.specs.Bounded.{if_else, tab}
use Rattle.base_bytes.specs.Bytes.{byte}
use Rattle.set_plan.specs.Limits.{reqids}
use Rattle.machine_state.specs.declared.State.{State}

abbrev pub state_byte : State → ℕ
state_byte State.Normal = 0
state_byte State.Standby = 1
state_byte State.Sleep = 2

-- the state of a byte below 3
abbrev pub state_of : ℕ → State
state_of b = if_else (eqb b 0) State.Normal (if_else (eqb b 1) State.Standby State.Sleep)

abbrev pub flag_byte : Bool → ℕ
flag_byte true = 1
flag_byte false = 0

-- the flag of a byte below 2
abbrev pub flag_of : ℕ → Bool
flag_of b = eqb b 1

-- the table of a byte per ReqId from an offset on
unfoldable pub table_at : List ℕ → ℕ → List ℕ
table_at s start = tab reqids (λ i. byte s (start + i))
