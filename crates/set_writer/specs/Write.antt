-- The bytes of a plan's set, and what a write gives and leaves in a buffer.
use Rattle.std.specs.Prelude.{ℕ, ◌+◌, ◌*◌, ◌-◌, ◌/◌, ◌%◌, min, List, [], ◌∷◌, ◌++◌, length, get_or, set, drop, replicate, leb, ltb, eqb, Result, Ok, Err}
use Rattle.base_lists.specs.Bounded.{if_else, tab}
use Rattle.base_bytes.specs.Bytes.{high_byte, low_byte, two_bytes}
use Rattle.base_bytes.specs.Check.{block_check}
use Rattle.base_bytes.specs.Limits.{block_length}
use Rattle.base_refusals.specs.declared.Refusal.{Refusal}
use Rattle.base_refusals.specs.Numbers.{number}
use Rattle.set_plan.specs.declared.Plan.{Plan}
use Rattle.set_plan.specs.Limits.{block_rows}
use Rattle.set_plan.specs.Rules.{plan_refusal}
use Rattle.set_record.specs.Entries.{times_bytes, entry_byte_at, row_byte_at}

-- the first 32 bytes of the plan block: "0 = 50 hex; 1 = 1; 2-3 revision ..; 4 = N ..; 6-19 seven times", and "byte 5" the profile
unfoldable pub plan_head : Plan → List ℕ
plan_head p =
    0x50 ∷ 1 ∷ two_bytes p.revision ++ p.nodecount ∷ p.profile ∷ times_bytes p.times ++ replicate 12 0

-- byte o of a block, its check left 0: a head, from an offset on so many entries or rows of 4 bytes, zeros
abbrev pub block_byte : List ℕ → ℕ → (ℕ → ℕ) → ℕ → ℕ → ℕ
block_byte head from four count o = if_else (ltb o from) (get_or head o 0) (if_else (ltb o (from + 4 * count)) (four (o - from)) 0)

-- of the plan block: "From 32, N entries of 4 bytes"
unfoldable pub plan_byte : Plan → ℕ → ℕ
plan_byte p o = block_byte (plan_head p) 32 (entry_byte_at p.nodes) p.nodecount o

-- rows in message block b, 1 or 2: "1 to 100, exactly 100 in the first of two"
unfoldable pub rows_in_block : ℕ → ℕ → ℕ
rows_in_block rowcount b = if_else (eqb b 1) (min rowcount block_rows) (rowcount - block_rows)

-- the first 8 bytes of a message block: "0 = 4D hex; 1 = 1; 2-3 the plan's revision; 4 = rows"
unfoldable pub message_head : ℕ → ℕ → List ℕ
message_head revision rows = 0x4d ∷ 1 ∷ two_bytes revision ++ rows ∷ 0 ∷ 0 ∷ 0 ∷ []

-- of message block b: "from 8, rows of 4 bytes"
unfoldable pub message_byte : Plan → ℕ → ℕ → ℕ
message_byte p b o =
    block_byte (message_head p.revision (rows_in_block p.rowcount b)) 8 (λ i. row_byte_at p.rows (4 * block_rows * (b - 1) + i)) (rows_in_block p.rowcount b) o

-- byte o of the set, checks left 0: "512-byte blocks: one plan block, then one or two message blocks"
unfoldable pub data_byte : Plan → ℕ → ℕ
data_byte p o = if_else (ltb o block_length) (plan_byte p o) (message_byte p (o / block_length) (o % block_length))

-- 1 to 100 rows make one message block, more make two
unfoldable pub set_length : ℕ → ℕ
set_length rowcount = if_else (leb rowcount block_rows) 1024 1536

-- "Bytes 510 and 511 hold the check", that of block b
unfoldable pub with_check : List ℕ → ℕ → List ℕ
with_check s b =
    set (set s (block_length * b + 510) (high_byte (block_check s (block_length * b)))) (block_length * b + 511) (low_byte (block_check s (block_length * b)))

unfoldable pub with_checks : ℕ → List ℕ → List ℕ
with_checks rowcount s =
    if_else (leb rowcount block_rows) (with_check (with_check s 0) 1) (with_check (with_check (with_check s 0) 1) 2)

-- the set of a plan
unfoldable pub write_set : Plan → List ℕ
write_set p = with_checks p.rowcount (tab (set_length p.rowcount) (data_byte p))

-- "The writer checks 4 to 8, then 10", and 3 of the profile "before 4", the buffer having so many bytes
unfoldable pub write_refusal : Plan → ℕ → ℕ
write_refusal p room = if_else (eqb (plan_refusal p) 0) (if_else (ltb room (set_length p.rowcount)) 10 0) (plan_refusal p)

-- what a write gives: 0 and the set's length, or a number and 0
pub record WriteResult : Type 0 where
  pub refusal : ℕ
  pub length : ℕ

-- the value that a call returns, so told
abbrev pub write_told : Result ℕ Refusal → WriteResult
write_told (Ok length) = record { refusal = 0; length = length }
write_told (Err refusal) = record { refusal = number refusal; length = 0 }

-- "returns the set's length"; 0 where it is refused
unfoldable pub write_result : Plan → ℕ → WriteResult
write_result p room =
    if_else (eqb (write_refusal p room) 0) (record { refusal = 0; length = set_length p.rowcount }) (record { refusal = write_refusal p room; length = 0 })

-- the buffer at exit: "leaves bytes past the set as they were"; "a refused write leaves the buffer untouched"
unfoldable pub written : Plan → List ℕ → List ℕ
written p buffer =
    if_else (eqb (write_refusal p (length buffer)) 0) (write_set p ++ drop (set_length p.rowcount) buffer) buffer
