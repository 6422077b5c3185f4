-- A tick and a whole answer in the bytes of a master's state.
use Rattle.std.specs.Prelude.{ℕ, ◌+◌, ◌*◌, ◌%◌, ◌^◌, Bool, true, not, ◌&&◌, ◌||◌, List, [], ◌∷◌, take, ◌==◌, nat_le, nat_lt, Option, Some, None}
use Rattle.std.proofs.lemmas.List.Edits.{sets}
use Rattle.base_lists.specs.Bounded.{if_else}
use Rattle.base_bytes.specs.Bytes.{byte, long_number, four_bytes}
use Rattle.set_plan.specs.declared.Row.{Row}
use Rattle.set_plan.specs.declared.Plan.{Plan}
use Rattle.set_plan.specs.Limits.{reqids, seq_counts}
use Rattle.set_plan.specs.Answering.{master_number, is_counted, accepts}
use Rattle.set_plan.specs.Find.{rising_row}
use Rattle.machine_master.specs.declared.Answer.{Answer}
use Rattle.machine_master.specs.declared.Event.{Event}
use Rattle.machine_master.specs.declared.Hold.{Hold}
use Rattle.machine_master.specs.Answers.{lost_after}
use Rattle.machine_master.specs.Changes.{cause_new, cause_aged}
use Rattle.machine_master.specs.Ticks.{older, all_older, all_aged_out}
use Rattle.packed_master.specs.Offsets.{state_at, phase_at, ticks_at, holds_at, counts_at, causes_at}
use Rattle.packed_master.specs.States.{hold_bytes, holds_bytes, hold_of, holds_of, causes_of}

abbrev pub is_normal_at : List ℕ → Bool
is_normal_at s = byte s state_at == 0

-- a tick leaves state and phase in Sleep, and in Normal but in Closing
abbrev pub tick_keeps_phase : ℕ → ℕ → Bool
tick_keeps_phase state phase = state == 2 || (state == 0 && nat_lt phase 3)

abbrev pub is_quiet : List ℕ → Bool
is_quiet s = tick_keeps_phase (byte s state_at) (byte s phase_at)

-- "held ages up by one, and one above W is let go", of the first nodes: from N on none is held
unfoldable pub aged_holds : ℕ → ℕ → List ℕ → List ℕ
aged_holds nodecount window s = sets s holds_at (take (3 * nodecount) (holds_bytes (all_older window (holds_of s))))

-- one node a tick later; a permission let go so in Normal is "aged out"
abbrev pub is_due : Bool → ℕ → Hold → Bool
is_due normal window h = normal && h.held && nat_le window h.age

abbrev pub node_aged : Bool → ℕ → ℕ → List ℕ → List ℕ
node_aged normal window k s =
    if_else (is_due normal window (hold_of s k)) (sets (sets s (holds_at + 3 * k) (hold_bytes (older window (hold_of s k)))) (causes_at + k) (cause_aged ∷ []))
    (sets s (holds_at + 3 * k) (hold_bytes (older window (hold_of s k))))

-- the first nodes
unfoldable pub aged_nodes : ℕ → ℕ → List ℕ → List ℕ
aged_nodes nodecount window s = sets (aged_holds nodecount window s) causes_at (take nodecount (all_aged_out (is_normal_at s) window (holds_of s) (causes_of s)))

-- "tick number up by one"
unfoldable pub tick_number_up : List ℕ → List ℕ
tick_number_up s = sets s ticks_at (four_bytes ((long_number s ticks_at + 1) % 2 ^ 32))

abbrev pub aged_bytes : ℕ → ℕ → List ℕ → List ℕ
aged_bytes nodecount window s = tick_number_up (aged_nodes nodecount window s)

-- "Answer (Normal only)", undamaged, with permission bit 1 and wake bit 0
abbrev pub is_kept : List ℕ → Answer → Bool
is_kept s a = is_normal_at s && (nat_lt a.reqid reqids && nat_lt a.count seq_counts) && (a.permission && not a.wake) && a.result == 0

-- its row, where it is a node's and accepts the length
abbrev pub accepting : Option Row → ℕ → Option Row
accepting None length = None
accepting (Some row) length = if_else (row.publisher == master_number) None (if_else (accepts row length) (Some row) None)

abbrev pub kept_row : Plan → List ℕ → Answer → Option Row
kept_row p s a = if_else (is_kept s a) (accepting (rising_row p a.reqid) a.length) None

-- "where the row has a count, report as lost .., and store it"
abbrev pub lost_before : Row → ℕ → List ℕ → ℕ
lost_before row count s = if_else (is_counted row) (lost_after (byte s (counts_at + row.reqid)) count) 0

abbrev pub count_kept : Row → ℕ → List ℕ → List ℕ
count_kept row count s = if_else (is_counted row) (sets s (counts_at + row.reqid) (count ∷ [])) s

-- "held with age 0", and with no cause
abbrev pub answer_kept : Row → ℕ → List ℕ → List ℕ
answer_kept row count s =
    sets (sets (count_kept row count s) (holds_at + 3 * row.publisher) (hold_bytes (record { held = true; age = 0 }))) (causes_at + row.publisher) (cause_new ∷ [])

-- an answer, by its row
abbrev pub answer_outcome : Option Row → ℕ → List ℕ → Option ℕ
answer_outcome None count s = None
answer_outcome (Some row) count s = Some (lost_before row count s)

abbrev pub answer_leaves : Option Row → ℕ → List ℕ → List ℕ
answer_leaves None count s = s
answer_leaves (Some row) count s = answer_kept row count s

-- what is done of an event in a state's bytes, and what that leaves there
abbrev pub outcome : Plan → List ℕ → Event → Option ℕ
outcome p s Event.Tick = if_else (is_quiet s) (Some 0) None
outcome p s (Event.Answer a) = answer_outcome (kept_row p s a) a.count s
outcome p s Event.Pulse = None
outcome p s Event.WakeAsk = None
outcome p s (Event.Permission permitted) = None
outcome p s Event.SleepAsk = None
outcome p s (Event.SendResult sent) = None

abbrev pub leaves : Plan → List ℕ → Event → List ℕ
leaves p s Event.Tick = if_else (is_quiet s) (aged_bytes p.nodecount p.times.window s) s
leaves p s (Event.Answer a) = answer_leaves (kept_row p s a) a.count s
leaves p s Event.Pulse = s
leaves p s Event.WakeAsk = s
leaves p s (Event.Permission permitted) = s
leaves p s Event.SleepAsk = s
leaves p s (Event.SendResult sent) = s
