-- Where a packed identity has its fields (Tables 11 and 13 of ISO 14229-8). docs/LAYOUTS.md and include/cxpi.h have the same numbers.
use Rattle.std.specs.Prelude.{ℕ}

-- two bytes
abbrev pub supplier_at : ℕ
supplier_at = 0

-- two bytes
abbrev pub function_at : ℕ
function_at = 2

-- one byte
abbrev pub variant_at : ℕ
variant_at = 4

-- four bytes
abbrev pub serial_at : ℕ
serial_at = 5

-- the bytes of an identity
abbrev pub identity_length : ℕ
identity_length = 9
