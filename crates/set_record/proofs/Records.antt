-- The record of bytes: the plan in them where they have its length, else the all-zero record; and the bytes of that one.
use Prim.Native.Nat.{ℕ, zero, suc, ◌-◌, ◌/◌, ◌%◌, ◌≤◌, ◌<◌}
use mathlib.Core.Path.{◌≡◌, refl, ap, sym, ◌∙◌}
use mathlib.Core.Bool.{Bool, true, false}
use mathlib.Core.List.{List, ◌++◌, append-nil}
use lib.ListN.{length, get_or, drop, replicate, length-replicate, get_or-replicate, drop_of_length-le}
use lib.Seq.{sets}
use lib.Dec.{eqb}
use native.Mathlib.Omega.{arith}
use native.Mathlib.Decide.{dec_lt}
use borrow.Author.Tests.{eq-eqb, ne_eqb, lt-ltb, le-ltb, eqb-true, eqb-false}
use Rattle.base_lists.proofs.Tables.{tab_of, get_or-tab, length-tab}
use Rattle.base_bytes.proofs.Puts.{put_as, put_whole, put_list, put_zero_run}
use Rattle.base_bytes.specs.Bytes.{byte}
use Rattle.set_plan.specs.declared.Plan.{Plan}
use Rattle.set_plan.specs.Record.{zero_entry, zero_row, zero_plan}
use Rattle.set_plan.specs.Rules.{plan_refusal}
use Rattle.set_record.specs.Record.{plan_in, record_of, record_head, record_byte, record_bytes}

pub record_in : (s : List ℕ) → length s ≡ 592 → plan_in s ≡ record_of s
unfolding record_of
record_in s h = rw (eq-eqb (length s) 592 h)

pub record_none : (s : List ℕ) → (length s ≡ 592 → ⊥) → zero_plan ≡ record_of s
unfolding record_of
record_none s h = rw (ne_eqb (length s) 592 h)

module _ {A : Type 0} where
  all_same : (n k : ℕ) (e : A) → get_or (replicate n e) k e ≡ e
  all_same zero k e = refl
  all_same (suc n) zero e = refl
  all_same (suc n) (suc k) e = all_same n k e

-- each byte of the all-zero record is 0
zero_byte : (o : ℕ) → o < 592 → ◌≡◌ {A = ℕ} 0 (record_byte zero_plan o)
unfolding zero_plan record_byte record_head
zero_byte o h = go (dec_lt o 19) (dec_lt o 83) (dec_lt o 591)
  where
    go : Dec (o < 19) → Dec (o < 83) → Dec (o < 591) → ◌≡◌ {A = ℕ} 0 (record_byte zero_plan o)
    go (yes a) b d = rw (lt-ltb o 19 a) (sym (all_same 19 o 0))
    go (no a) (yes b) d = rw (le-ltb o 19 (omega arith), lt-ltb o 83 b, all_same 16 ((o - 19) / 4) zero_entry) (sym (all_same 4 ((o - 19) % 4) 0))
    go (no a) (no b) (yes d) = rw (le-ltb o 19 (omega arith), le-ltb o 83 (omega arith), lt-ltb o 591 d, all_same 127 ((o - 83) / 4) zero_row) (sym (all_same 4 ((o - 83) % 4) 0))
    go (no a) (no b) (no d) = rw (le-ltb o 19 (omega arith), le-ltb o 83 (omega arith), le-ltb o 591 (omega arith))

-- zeros from the front on are the all-zero record
pub zeros_put : (d x : List ℕ) → x ≡ sets d 0 (replicate 592 0) → 592 ≤ length d → x ≡ record_bytes zero_plan ++ drop 592 d
unfolding record_bytes
zeros_put d x e long = put_whole 592 (record_byte zero_plan) d x (put_as 0 592 (λ i. 0) (record_byte zero_plan) d x (put_zero_run 0 592 d x e long) zero_byte) long

-- "an all-zero record" is zero bytes
pub zero_bytes : record_bytes zero_plan ≡ replicate 592 0
unfolding record_bytes
zero_bytes = sym (tab_of 0 592 (record_byte zero_plan) (replicate 592 0) (length-replicate {A = ℕ} 592 0) (λ o h. get_or-replicate 592 o 0 0 h ∙ zero_byte o h))

-- a record stored at the front of a buffer
pub record_front : (p : Plan) (d x : List ℕ) → x ≡ sets d 0 (record_bytes p) → 592 ≤ length d → x ≡ record_bytes p ++ drop 592 d
unfolding record_bytes
record_front p d x e long =
    let n : length (record_bytes p) ≡ 592 = length-tab 592 (record_byte p) in
    put_whole 592 (record_byte p) d x (put_as 0 592 (byte (record_bytes p)) (record_byte p) d x (rw n at (put_list 0 (record_bytes p) d x e (omega arith))) (λ i h. get_or-tab 592 (record_byte p) i 0 h)) long

-- a record in a buffer of its length
pub record_whole : (p : Plan) (d : List ℕ) → length d ≡ 592 → record_bytes p ++ drop 592 d ≡ record_bytes p
record_whole p d n = ap (λ l. record_bytes p ++ l) (drop_of_length-le d {i = 592} (omega arith)) ∙ append-nil (record_bytes p)

zero_refused : plan_refusal zero_plan ≡ 0 → ⊥
unfolding plan_refusal zero_plan
zero_refused z = omega arith

-- a record that is accepted has its length
pub accepted_long : (s : List ℕ) → plan_refusal (record_of s) ≡ 0 → length s ≡ 592
accepted_long s e = go (eqb (length s) 592) refl
  where
    go : (b : Bool) → eqb (length s) 592 ≡ b → length s ≡ 592
    go true f = eqb-true _ _ f
    go false f = absurd (zero_refused (ap plan_refusal (record_none s (eqb-false (length s) 592 f)) ∙ e))
