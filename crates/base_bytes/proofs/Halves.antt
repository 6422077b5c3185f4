-- A number of two bytes and its halves.
use Prim.Native.Nat.{ℕ, ◌+◌, ◌*◌, ◌/◌, ◌%◌, ◌<◌}
use mathlib.Core.Path.{◌≡◌}
use mathlib.Core.List.{List}
use native.Mathlib.Omega.{arith}
use Rattle.base_bytes.specs.Bytes.{byte, number, high_byte, low_byte, long_number}

-- a number from its two bytes
pub from_halves : (x a b : ℕ) → a ≡ high_byte x → b ≡ low_byte x → a * 256 + b ≡ x
from_halves x a b p q = rw (p, q) (omega arith)

-- the two bytes of a number that was read
pub high_at : (s : List ℕ) (o : ℕ) → byte s (o + 1) < 256 → high_byte (number s o) ≡ byte s o
high_at s o h = omega arith

pub low_at : (s : List ℕ) (o : ℕ) → byte s (o + 1) < 256 → low_byte (number s o) ≡ byte s (o + 1)
low_at s o h = omega arith

-- the same of a number of four bytes
pub long_high_at : (s : List ℕ) (o : ℕ) → byte s (o + 2) < 256 → byte s (o + 2 + 1) < 256 → long_number s o / 65536 ≡ number s o
long_high_at s o h k = omega arith

pub long_low_at : (s : List ℕ) (o : ℕ) → byte s (o + 2) < 256 → byte s (o + 2 + 1) < 256 → long_number s o % 65536 ≡ number s (o + 2)
long_low_at s o h k = omega arith

pub from_quarters : (x a b c d : ℕ) → a ≡ high_byte (x / 65536) → b ≡ low_byte (x / 65536) → c ≡ high_byte (x % 65536) → d ≡ low_byte (x % 65536)
    → (a * 256 + b) * 65536 + (c * 256 + d) ≡ x
from_quarters x a b c d p q r s = rw (p, q, r, s) (omega arith)
