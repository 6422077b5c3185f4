-- Where a node's state has its fields. docs/LAYOUTS.md and include/cxpi.h have the same numbers.
use Rattle.std.specs.Prelude.{ℕ}

abbrev pub state_at : ℕ
state_at = 0

abbrev pub permission_at : ℕ
permission_at = 1

abbrev pub error_at : ℕ
error_at = 2

abbrev pub wake_at : ℕ
wake_at = 3

abbrev pub heard_at : ℕ
heard_at = 4

abbrev pub caller_at : ℕ
caller_at = 5

-- two bytes
abbrev pub quiet_at : ℕ
quiet_at = 6

-- one byte, then two of ticks
abbrev pub delay_at : ℕ
delay_at = 8

-- four bytes
abbrev pub standby_at : ℕ
standby_at = 11

-- 128 counts of one byte
abbrev pub counts_at : ℕ
counts_at = 15

-- the bytes of a state
abbrev pub node_length : ℕ
node_length = 143

-- the bytes of a reply
abbrev pub reply_length : ℕ
reply_length = 4
