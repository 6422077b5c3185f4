-- The master's state as bytes.
use Rattle.std.specs.Prelude.{ℕ, ◌+◌, ◌*◌, ◌/◌, ◌%◌, Bool, true, ◌&&◌, List, ◌∷◌, ◌++◌, length, get_or, ltb, eqb}
use Rattle.base_lists.specs.Bounded.{if_else, tab, all_to}
use Rattle.base_bytes.specs.Bytes.{byte, number, two_bytes, long_number, four_bytes}
use Rattle.machine_state.specs.Bytes.{state_byte, state_of, flag_byte, flag_of, table_at}
use Rattle.set_plan.specs.Limits.{max_nodes}
use Rattle.machine_master.specs.declared.Phase.{Phase}
use Rattle.machine_master.specs.declared.Hold.{Hold}
use Rattle.machine_master.specs.declared.Master.{Master}
use Rattle.machine_master.specs.Changes.{no_hold, power_on, with_delay}
use Rattle.packed_master.specs.Offsets.{state_at, phase_at, permission_at, delay_at, ticks_at, holds_at, counts_at, causes_at, master_length}

-- "phase 0 Open, 1 Sending, 2 Withdrawn, 3 Closing"
abbrev pub phase_byte : Phase → ℕ
phase_byte Phase.Open = 0
phase_byte Phase.Sending = 1
phase_byte Phase.Withdrawn = 2
phase_byte Phase.Closing = 3

-- the phase of a byte below 4
abbrev pub phase_of : ℕ → Phase
phase_of b = if_else (eqb b 0) Phase.Open (if_else (eqb b 1) Phase.Sending (if_else (eqb b 2) Phase.Withdrawn Phase.Closing))

-- state, phase, own permission, delay, tick number
abbrev pub master_head : Master → List ℕ
master_head m = state_byte m.state ∷ phase_byte m.phase ∷ flag_byte m.permission ∷ two_bytes m.delay ++ four_bytes m.ticks

-- a node's permission: 1 if it is held, else 0; its age
abbrev pub hold_bytes : Hold → List ℕ
hold_bytes h = flag_byte h.held ∷ two_bytes h.age

abbrev pub hold_from : List ℕ → ℕ → Hold
hold_from s o = record { held = flag_of (byte s o); age = number s (o + 1) }

-- the permissions of sixteen nodes
abbrev pub hold_byte_at : List Hold → ℕ → ℕ
hold_byte_at holds i = get_or (hold_bytes (get_or holds (i / 3) no_hold)) (i % 3) 0

unfoldable pub holds_bytes : List Hold → List ℕ
holds_bytes holds = tab 48 (hold_byte_at holds)

abbrev pub hold_of : List ℕ → ℕ → Hold
hold_of s k = hold_from s (holds_at + 3 * k)

unfoldable pub holds_of : List ℕ → List Hold
holds_of s = tab max_nodes (hold_of s)

-- the causes of sixteen nodes
abbrev pub cause_byte_at : List ℕ → ℕ → ℕ
cause_byte_at s k = byte s (causes_at + k)

unfoldable pub causes_of : List ℕ → List ℕ
causes_of s = tab max_nodes (cause_byte_at s)

-- behind the permissions the last sequence count of each ReqId, then the causes
unfoldable pub master_bytes : Master → List ℕ
master_bytes m = master_head m ++ holds_bytes m.holds ++ m.counts ++ m.causes

abbrev pub flag_at : List ℕ → ℕ → Bool
flag_at s k = ltb (byte s (holds_at + 3 * k)) 2

-- "bytes that are no state": another length, a state above 2, a phase above 3, a flag above 1
unfoldable pub is_master : List ℕ → Bool
is_master s = eqb (length s) master_length && ltb (byte s state_at) 3 && ltb (byte s phase_at) 4 && ltb (byte s permission_at) 2 && all_to (flag_at s) max_nodes

abbrev pub master_from : List ℕ → Master
master_from s =
    record { state = state_of (byte s state_at); phase = phase_of (byte s phase_at); permission = flag_of (byte s permission_at); holds = holds_of s; causes = causes_of s; counts = table_at s counts_at; delay = number s delay_at; ticks = long_number s ticks_at }

-- a master out of range under every plan: "a delay below C in Standby, below D in Closing, else 0"
abbrev pub master_out_of_range : Master
master_out_of_range = with_delay 1 (power_on true)

-- the master of bytes; of bytes that are no state one that each step refuses as 11
abbrev pub master_of : List ℕ → Master
master_of s = if_else (is_master s) (master_from s) master_out_of_range
