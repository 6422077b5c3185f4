-- Laws of a number's decimal digits.
use Prim.Native.Nat.{ℕ, zero, suc, ◌+◌, ◌*◌, ◌-◌, ◌/◌, ◌%◌, ◌^◌, ◌≤◌, ◌<◌}
use mathlib.Core.Path.{◌≡◌, refl, ◌∙◌}
use mathlib.Core.List.{List, [], ◌∷◌, ◌++◌}
use lib.Dec.{ltb}
use lib.ListN.{length, length-append}
use native.Mathlib.Omega.{arith}
use native.Mathlib.Decide.{dec_lt}
use native.Mathlib.Nat.{pow-suc}
use borrow.Author.Tests.{lt-ltb, le-ltb}
use Rattle.base_lists.proofs.Choices.{by_test}
use Rattle.base_text.specs.Text.{digits_in, most_digits, decimal}

-- no place, a last digit, one digit more: the three ends of the function that writes them
pub digits_none : (places n : ℕ) → places ≡ 0 → digits_in places n ≡ []
unfolding digits_in
digits_none zero n e = refl
digits_none (suc k) n e = absurd (omega arith)

pub digits_last : (places n : ℕ) → (places ≡ 0 → ⊥) → n < 10 → digits_in places n ≡ (48 + n) ∷ []
unfolding digits_in
digits_last zero n e p = absurd (e refl)
digits_last (suc k) n e p = rw (lt-ltb n 10 p)

pub digits_more : (places n : ℕ) → (places ≡ 0 → ⊥) → 10 ≤ n → digits_in places n ≡ digits_in (places - 1) (n / 10) ++ ((48 + n % 10) ∷ [])
unfolding digits_in
digits_more zero n e p = absurd (e refl)
digits_more (suc k) n e p = let z : suc k - 1 ≡ k = omega arith in rw (z, le-ltb n 10 p)

pub ruleset digits_ends = (digits_none, digits_last, digits_more)

digits_short : (places n : ℕ) → length (digits_in places n) ≤ places
unfolding digits_in
digits_short zero n = omega arith
digits_short (suc k) n =
    by_test (λ digits. length digits ≤ suc k) (ltb n 10) {x = (48 + n) ∷ []} {y = digits_in k (n / 10) ++ ((48 + n % 10) ∷ [])} (λ l. omega arith)
    (λ l. omega (arith, digits_short k (n / 10), length-append (digits_in k (n / 10)) ((48 + n % 10) ∷ [])))

pub decimal_short : (n : ℕ) → length (decimal n) ≤ most_digits
unfolding decimal
decimal_short n = digits_short most_digits n

-- the number that digits stand for, behind a front worth a
unfoldable pub value : ℕ → List ℕ → ℕ
value a [] = a
value a (d ∷ l) = value (10 * a + (d - 48)) l

value_snoc : (a : ℕ) (l : List ℕ) (d : ℕ) → value a (l ++ (d ∷ [])) ≡ 10 * value a l + (d - 48)
unfolding value
value_snoc a [] d = refl
value_snoc a (x ∷ l) d = value_snoc (10 * a + (x - 48)) l d

digits_value : (places n : ℕ) → n < 10 ^ places → value 0 (digits_in places n) ≡ n
unfolding digits_in value
digits_value zero n p = omega arith
digits_value (suc k) n p = go (digits_value k (n / 10)) (dec_lt n 10)
  where
    go : (n / 10 < 10 ^ k → value 0 (digits_in k (n / 10)) ≡ n / 10) → Dec (n < 10) → value 0 (digits_in (suc k) n) ≡ n
    go h (yes l) = rw (lt-ltb n 10 l) (omega arith)
    go h (no l) =
        let q : n < 10 ^ k * 10 = rw pow-suc at p in
        rw (le-ltb n 10 (omega arith)) (value_snoc 0 (digits_in k (n / 10)) (48 + n % 10) ∙ omega (arith, h (omega arith)))

-- the digits of a 64-bit number are worth it
pub decimal_value : (n : ℕ) → n < 2 ^ 64 → value 0 (decimal n) ≡ n
unfolding decimal
decimal_value n p = digits_value most_digits n (omega arith)
