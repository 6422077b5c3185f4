-- Texts as lists of bytes, and a text appended to a buffer.
use Rattle.std.specs.Prelude.{ℕ, zero, suc, ◌+◌, ◌/◌, ◌%◌, ◌≤◌, min, max, ◌≡◌, List, [], ◌∷◌, ◌++◌, Bool, true, false, ◌&&◌, ltb, eqb, length, take}
use Prim.Native.Char.{code}
use Prim.Native.String.{String}
use Prim.Native.String as quoted
use Rattle.std.proofs.lemmas.List.Edits.{sets}
use Rattle.base_lists.specs.Bounded.{if_else}
use Rattle.base_text.specs.declared.Writer.{Writer}

-- the bytes of a quoted text of ASCII characters
abbrev pub ascii : String → List ℕ
ascii quoted.[] = []
ascii (quoted.◌∷◌ c s) = code c ∷ ascii s

-- two texts are the same
unfoldable pub same : List ℕ → List ℕ → Bool
same [] [] = true
same [] (y ∷ b) = false
same (x ∷ a) [] = false
same (x ∷ a) (y ∷ b) = eqb x y && same a b

-- a number's decimal digits, of which there is room for so many
unfoldable pub digits_in : ℕ → ℕ → List ℕ
digits_in zero n = []
digits_in (suc places) n = if_else (ltb n 10) ((48 + n) ∷ []) (digits_in places (n / 10) ++ ((48 + n % 10) ∷ []))

-- 20 are enough for 64 bits (decimal_value in proofs/Digits.antt)
abbrev pub most_digits : ℕ
most_digits = 20

unfoldable pub decimal : ℕ → List ℕ
decimal n = digits_in most_digits n

-- 0 to 9, A to F
abbrev pub hex_digit : ℕ → ℕ
hex_digit x = if_else (ltb x 10) (48 + x) (55 + x)

-- the two digits of a byte
unfoldable pub hex_byte : ℕ → List ℕ
hex_byte b = hex_digit (b / 16 % 16) ∷ hex_digit (b % 16) ∷ []

-- the largest index
abbrev pub largest : ℕ
largest = 18446744073709551615

-- a text stored over the buffer l from index at on gives l', and r is the index past it
pub record Appended (at : ℕ) (text l l' : List ℕ) (r : ℕ) : Type 0 where
  pub next : r ≡ min (at + length text) largest
  pub bytes : l' ≡ sets l at text

-- a writer that got a text more, as Appended has it: neither the index before nor the buffer is longer than the largest index
unfoldable pub wrote : List ℕ → Writer → Writer
wrote text w =
    record {
      buffer = record w.buffer { now = sets w.buffer.now w.at text };
      at = min (w.at + length text) (max largest (max w.at (length w.buffer.now)));
    }

-- the text stands at the front of the buffer l, which is then l', as far as there is room; r bytes of it do
pub record Shown (text l l' : List ℕ) (r : ℕ) : Type 0 where
  pub count : r ≡ min (length text) (length l)
  pub bytes : l' ≡ sets l 0 text

-- n counts bytes at the front of a buffer: both facts that lending `&buffer[..n]` asks
abbrev pub Counts : ℕ → List ℕ → Type 0
Counts n buffer = (n ≤ length buffer) × (n ≡ length (take n buffer))
