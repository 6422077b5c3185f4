-- The check of a 512-byte block.
use Rattle.std.specs.Prelude.{ℕ, ◌+◌, ◌-◌, ◌*◌, ◌%◌, List}
use Rattle.base_lists.specs.Bounded.{sum_to}
use Rattle.base_bytes.specs.Bytes.{byte}

-- (offset + 1) times the byte, in the block that starts at an offset
abbrev pub weight : List ℕ → ℕ → ℕ → ℕ
weight s start i = (i + 1) * byte s (start + i)

-- "the sum over bytes 0 to 509 of (offset + 1) times the byte, remainder by 65,521"
unfoldable pub block_check : List ℕ → ℕ → ℕ
block_check s start = sum_to (weight s start) 510 % 65521

-- the flashing station's sheet, "a table that starts at byte 509 and goes down to byte 0": its "running total" after n bytes
abbrev pub running_total : List ℕ → ℕ → ℕ → ℕ
running_total s start n = sum_to (λ k. byte s (start + (509 - k))) n

-- its "running total of totals" after n bytes
abbrev pub total_of_totals : List ℕ → ℕ → ℕ → ℕ
total_of_totals s start n = sum_to (λ k. running_total s start (k + 1)) n
