-- Bytes and big-endian numbers at offsets.
use Rattle.std.specs.Prelude.{ℕ, ◌+◌, ◌*◌, ◌/◌, ◌%◌, ◌≤◌, ◌<◌, List, [], ◌∷◌, ◌++◌, Bool, get_or, eqb}

-- the byte at an offset, 0 past the end
abbrev pub byte : List ℕ → ℕ → ℕ
byte s o = get_or s o 0

-- "Numbers are big-endian": the number of the two bytes from an offset on
abbrev pub number : List ℕ → ℕ → ℕ
number s o = byte s o * 256 + byte s (o + 1)

-- the two bytes of a number
abbrev pub high_byte : ℕ → ℕ
high_byte x = x / 256

abbrev pub low_byte : ℕ → ℕ
low_byte x = x % 256

-- "Numbers are big-endian"
abbrev pub two_bytes : ℕ → List ℕ
two_bytes x = high_byte x ∷ low_byte x ∷ []

-- the number of the four bytes from an offset on, and its bytes
abbrev pub long_number : List ℕ → ℕ → ℕ
long_number s o = number s o * 65536 + number s (o + 2)

abbrev pub four_bytes : ℕ → List ℕ
four_bytes x = two_bytes (x / 65536) ++ two_bytes (x % 65536)

-- whether the byte i places after an offset is zero
abbrev pub is_zero : List ℕ → ℕ → ℕ → Bool
is_zero s start i = eqb (byte s (start + i)) 0

-- r is how many of some places from an offset on lie below a length
pub record Reach (length start places r : ℕ) : Type 0 where
  pub most : r ≤ places
  pub inside : (i : ℕ) → i < r → start + i < length
  pub outside : (i : ℕ) → r ≤ i → i < places → length ≤ start + i
