-- Where a packed plan record has its fields. docs/LAYOUTS.md and include/cxpi.h have the same numbers.
use Rattle.std.specs.Prelude.{ℕ}

-- two bytes
abbrev pub revision_at : ℕ
revision_at = 0

-- one byte
abbrev pub nodecount_at : ℕ
nodecount_at = 2

-- two bytes
abbrev pub rowcount_at : ℕ
rowcount_at = 3

-- seven times of two bytes
abbrev pub times_at : ℕ
times_at = 5

-- sixteen entries of four bytes
abbrev pub entries_at : ℕ
entries_at = 19

-- 127 rows of four bytes
abbrev pub rows_at : ℕ
rows_at = 83

-- one byte
abbrev pub profile_at : ℕ
profile_at = 591

-- the bytes of a record
abbrev pub record_length : ℕ
record_length = 592
