-- Where the master's state has its fields. docs/LAYOUTS.md and include/cxpi.h have the same numbers.
use Rattle.std.specs.Prelude.{ℕ}

abbrev pub state_at : ℕ
state_at = 0

abbrev pub phase_at : ℕ
phase_at = 1

abbrev pub permission_at : ℕ
permission_at = 2

-- two bytes
abbrev pub delay_at : ℕ
delay_at = 3

-- four bytes
abbrev pub ticks_at : ℕ
ticks_at = 5

-- sixteen permissions of three bytes
abbrev pub holds_at : ℕ
holds_at = 9

-- 128 counts of one byte
abbrev pub counts_at : ℕ
counts_at = 57

-- sixteen causes of one byte
abbrev pub causes_at : ℕ
causes_at = 185

-- the bytes of a state
abbrev pub master_length : ℕ
master_length = 201

-- the bytes of a reply
abbrev pub reply_length : ℕ
reply_length = 3
