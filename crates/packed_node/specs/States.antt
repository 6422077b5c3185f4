-- A node's state as bytes.
use Rattle.std.specs.Prelude.{ℕ, ◌+◌, Bool, true, false, ◌&&◌, ◌||◌, List, [], ◌∷◌, ◌++◌, length, ltb, eqb, Option, Some, None}
use Rattle.base_lists.specs.Bounded.{if_else}
use Rattle.base_bytes.specs.Bytes.{byte, number, two_bytes, long_number, four_bytes}
use Rattle.machine_state.specs.Bytes.{state_byte, state_of, flag_byte, flag_of, table_at}
use Rattle.machine_node.specs.declared.Node.{Node}
use Rattle.machine_node.specs.Changes.{power_on, with_standby}
use Rattle.packed_node.specs.Offsets.{state_at, permission_at, error_at, wake_at, heard_at, caller_at, quiet_at, delay_at, standby_at, counts_at, node_length}

-- a sleep delay: 1 while it runs, else 0; its ticks, 0 where none runs
abbrev pub delay_bytes : Option ℕ → List ℕ
delay_bytes None = 0 ∷ 0 ∷ 0 ∷ []
delay_bytes (Some ticks) = 1 ∷ two_bytes ticks

abbrev pub delay_of : ℕ → ℕ → Option ℕ
delay_of runs ticks = if_else (eqb runs 1) (Some ticks) None

-- state, permission, network error, wake bit, heard, caller, quiet count, sleep delay, standby count
abbrev pub node_head : Node → List ℕ
node_head n =
    state_byte n.state ∷ flag_byte n.permission ∷ flag_byte n.error ∷ flag_byte n.wake ∷ flag_byte n.heard ∷ flag_byte n.caller
    ∷ two_bytes n.quiet ++ delay_bytes n.delay ++ four_bytes n.standby

-- then the sequence count of each ReqId
unfoldable pub node_bytes : Node → List ℕ
node_bytes n = node_head n ++ n.counts

-- "bytes that are no state": another length, a state above 2, a flag above 1, ticks of a delay that does not run
unfoldable pub is_node : List ℕ → Bool
is_node s =
    eqb (length s) node_length && ltb (byte s state_at) 3 && ltb (byte s permission_at) 2 && ltb (byte s error_at) 2 && ltb (byte s wake_at) 2 && ltb (byte s heard_at) 2 && ltb (byte s caller_at) 2
    && ltb (byte s delay_at) 2 && (eqb (byte s delay_at) 1 || eqb (number s (delay_at + 1)) 0)

abbrev pub node_from : List ℕ → Node
node_from s =
    record { state = state_of (byte s state_at); permission = flag_of (byte s permission_at); error = flag_of (byte s error_at); wake = flag_of (byte s wake_at); heard = flag_of (byte s heard_at); caller = flag_of (byte s caller_at); quiet = number s quiet_at; delay = delay_of (byte s delay_at) (number s (delay_at + 1)); standby = long_number s standby_at; counts = table_at s counts_at }

-- a node out of range under every plan: "outside Standby .. count 0"
abbrev pub node_out_of_range : Node
node_out_of_range = with_standby 1 false (power_on true)

-- the node of bytes; of bytes that are no state one that each step refuses as 11
abbrev pub node_of : List ℕ → Node
node_of s = if_else (is_node s) (node_from s) node_out_of_range
