-- The rules of a set's bytes, by the numbers of their refusals.
use Rattle.std.specs.Prelude.{ℕ, ◌+◌, ◌*◌, ◌/◌, ◌%◌, ◌≤◌, ◌<◌, List, [], ◌∷◌, Bool, ◌&&◌, ◌||◌, length, leb, ltb, eqb}
use Rattle.base_lists.specs.Bounded.{if_else, all_to}
use Rattle.base_bytes.specs.Bytes.{byte, number}
use Rattle.base_bytes.specs.Check.{block_check}
use Rattle.base_bytes.specs.Limits.{block_length}
use Rattle.set_plan.specs.declared.Plan.{Plan}
use Rattle.set_plan.specs.Limits.{block_rows}
use Rattle.set_plan.specs.Profile.{profile_right}
use Rattle.set_plan.specs.Rules.{between, revision_right, times_right, nodes_right, rows_right, all_publish}
use Rattle.set_reader.specs.Layout.{one_message_block, plan_of}

-- "each over all blocks": the plan block, one message block, a second unless the length is that of one
abbrev pub each_block : List ℕ → (ℕ → Bool) → Bool
each_block s f = f 0 && f 1 && (one_message_block s || f 2)

-- 1: "length is not 1,024 or 1,536"
unfoldable pub length_right : List ℕ → Bool
length_right s = eqb (length s) 1024 || eqb (length s) 1536

-- 2: "Bytes 510 and 511 hold the check"
unfoldable pub check_right : List ℕ → ℕ → Bool
check_right s b = eqb (block_check s (block_length * b)) (number s (block_length * b + 510))

unfoldable pub checks_right : List ℕ → Bool
checks_right s = each_block s (check_right s)

-- 3: "0 = 50 hex; 1 = 1" in the plan block, "0 = 4D hex; 1 = 1" in a message block
unfoldable pub block_type : ℕ → ℕ
block_type b = if_else (eqb b 0) 0x50 0x4d

unfoldable pub type_right : List ℕ → ℕ → Bool
type_right s b = eqb (byte s (block_length * b)) (block_type b) && eqb (byte s (block_length * b + 1)) 1

unfoldable pub types_right : List ℕ → Bool
types_right s = each_block s (type_right s)

-- 4: "2-3 the plan's revision"
unfoldable pub revision_same : List ℕ → ℕ → Bool
revision_same s b = eqb (number s (block_length * b + 2)) (number s 2)

unfoldable pub revisions_same : List ℕ → Bool
revisions_same s = each_block s (revision_same s)

-- 7: "4 = rows, 1 to 100, exactly 100 in the first of two"
unfoldable pub counts_right : List ℕ → Bool
counts_right s = between 1 block_rows (byte s 516) && (one_message_block s || eqb (byte s 516) block_rows && between 1 block_rows (byte s 1028))

-- 9: "Unnamed bytes are zero": the offsets of a block that have a name, those of a head, of so many entries or rows from an offset on, of the check
abbrev pub block_named : ℕ → ℕ → ℕ → ℕ → Bool
block_named head from count o = ltb o head || leb from o && ltb o (from + 4 * count) || leb 510 o

abbrev pub plan_named : ℕ → ℕ → Bool
plan_named nodes o = block_named 20 32 nodes o

abbrev pub message_named : ℕ → ℕ → Bool
message_named rows o = block_named 5 8 rows o

unfoldable pub named : List ℕ → ℕ → Bool
named s o = if_else (ltb o block_length) (plan_named (byte s 4) o) (message_named (byte s (block_length * (o / block_length) + 4)) (o % block_length))

unfoldable pub filler_at : List ℕ → ℕ → Bool
filler_at s o = named s o || eqb (byte s o) 0

unfoldable pub filler_right : List ℕ → Bool
filler_right s = all_to (filler_at s) (length s)

-- 1 to 3, true where kept; 3 "also for byte 5 above 1"
abbrev pub shape_rules : List ℕ → List Bool
shape_rules s = length_right s ∷ checks_right s ∷ (types_right s && profile_right (plan_of s).profile) ∷ []

-- 4 to 9, of the bytes and their record
abbrev pub content_rules : List ℕ → Plan → List Bool
content_rules s p =
    (revisions_same s && revision_right p) ∷ times_right p.times ∷ nodes_right p ∷ (counts_right s && rows_right p) ∷ all_publish p ∷ filler_right s ∷ []

-- what the filler's code says of message block b ..
abbrev pub message_filler_at : List ℕ → ℕ → ℕ → Bool
message_filler_at s b o = filler_at s (block_length * b + o)

-- .. and of r, where the filler behind some entries starts, 510 at most
pub record FillerStart (first count r : ℕ) : Type 0 where
  pub low : first ≤ r
  pub high : r ≤ 510
  pub used : r ≤ first + 4 * count
  pub free : (o : ℕ) → r ≤ o → o < 510 → first + 4 * count ≤ o
