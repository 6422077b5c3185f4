-- The filler by ranges: a test at each offset is a test of the unnamed ranges.
use Prim.Native.Nat.{ℕ, ◌+◌, ◌*◌, ◌-◌, ◌/◌, ◌%◌, ◌≤◌, ◌<◌}
use mathlib.Core.Path.{◌≡◌, sym, ap, ◌∙◌}
use mathlib.Core.List.{List}
use mathlib.Core.Bool.{Bool, true, ◌&&◌, ◌||◌, or-true}
use lib.ListN.{length}
use lib.Dec.{eqb}
use native.Mathlib.Omega.{arith}
use borrow.Author.Tests.{lt-ltb, le-ltb, le-leb, lt-leb}
use Rattle.base_lists.specs.Bounded.{all_to}
use Rattle.base_lists.proofs.AllAny.{all_none, all_upto, all_cut, all_ext}
use Rattle.base_bytes.specs.Bytes.{byte, is_zero}
use Rattle.set_reader.specs.Rules.{block_named, plan_named, message_named, named, filler_at, message_filler_at, filler_right, FillerStart}

-- a range in which the test is that the byte is zero
zero_run : (s : List ℕ) (f : ℕ → Bool) (at a e : ℕ) → a ≤ e → ((i : ℕ) → a ≤ i → i < e → f i ≡ eqb (byte s (at + i)) 0)
    → all_to f e ≡ (all_to f a && all_to (is_zero s (at + a)) (e - a))
zero_run s f at a e l h =
    let w : a + (e - a) ≡ e = omega arith in
    sym (ap (all_to f) w) ∙ all_cut f a (e - a) ∙ ap (λ b. all_to f a && b) (all_ext _ _ (e - a) same)
  where
    same : (i : ℕ) → i < e - a → f (a + i) ≡ is_zero s (at + a) i
    same i p =
        let x : at + (a + i) ≡ at + a + i = omega arith in
        h (a + i) (omega arith) (omega arith) ∙ ap (λ o. eqb (byte s o) 0) x

-- the two runs of zeros of a block, between its named ranges
runs : (s : List ℕ) (f : ℕ → Bool) (at head from count : ℕ) → head ≤ from → from ≤ 510
    → ((i : ℕ) → i < 512 → f i ≡ (block_named head from count i || eqb (byte s (at + i)) 0))
    → (a : ℕ) (x y : Bool) → FillerStart from count a → x ≡ all_to (is_zero s (at + head)) (from - head) → y ≡ all_to (is_zero s (at + a)) (510 - a) → (x && y) ≡ all_to f 512
runs s f at head from count order room test a x y h u v =
    let e1 : all_to f head ≡ true = sym (all_upto f 0 head (omega arith) (λ i p q. test i (omega arith) ∙ rw (lt-ltb i head q))) ∙ all_none f in
    let e2 : all_to f from ≡ (all_to f head && all_to (is_zero s (at + head)) (from - head)) = zero_run s f at head from order (λ i p q. test i (omega arith)
    ∙ rw (le-ltb i head p, lt-leb from i q, lt-leb 510 i (omega arith))) in
    let e3 : all_to f from ≡ all_to f a = all_upto f from a h.low (λ i p q. test i (omega arith)
    ∙ rw (le-ltb i head (omega arith), le-leb from i p, lt-ltb i (from + 4 * count) (omega arith))) in
    let e4 : all_to f 510 ≡ (all_to f a && all_to (is_zero s (at + a)) (510 - a)) = zero_run s f at a 510 h.high (λ i p q. test i (omega arith)
    ∙ rw (le-ltb i head (omega arith), le-leb from i (omega arith), le-ltb i (from + 4 * count) (h.free i p q), lt-leb 510 i q)) in
    let e5 : all_to f 510 ≡ all_to f 512 = all_upto f 510 512 (omega arith) (λ i p q. test i q ∙ rw (le-leb 510 i p, or-true)) in
    rw (u, v) (sym (sym e5 ∙ rw (e4, ← e3, e2, e1)))

module _ (s : List ℕ) where
  in_plan : (o : ℕ) → o < 512 → filler_at s o ≡ (plan_named (byte s 4) o || eqb (byte s (0 + o)) 0)
  unfolding filler_at named
  in_plan o h =
      let z : 0 + o ≡ o = omega arith in
      rw (lt-ltb o 512 h, z)

  pub plan_runs : (a : ℕ) (x y : Bool) → FillerStart 32 (byte s 4) a
      → x ≡ all_to (is_zero s 20) 12 → y ≡ all_to (is_zero s a) (510 - a) → (x && y) ≡ all_to (filler_at s) 512
  plan_runs a x y h u v =
      let z : 0 + a ≡ a = omega arith in
      runs s (filler_at s) 0 20 32 (byte s 4) (omega arith) (omega arith) in_plan a x y h u (rw z v)

  module _ (b : ℕ) (first : 1 ≤ b) where
    in_message : (o : ℕ) → o < 512 → message_filler_at s b o ≡ (message_named (byte s (512 * b + 4)) o || eqb (byte s (512 * b + o)) 0)
    unfolding filler_at named
    in_message o h =
        let x : (512 * b + o) / 512 ≡ b = omega arith in
        let y : (512 * b + o) % 512 ≡ o = omega arith in
        rw (le-ltb (512 * b + o) 512 (omega arith), x, y)

    pub message_runs : (a : ℕ) (x y : Bool) → FillerStart 8 (byte s (512 * b + 4)) a
        → x ≡ all_to (is_zero s (512 * b + 5)) 3 → y ≡ all_to (is_zero s (512 * b + a)) (510 - a) → (x && y) ≡ all_to (message_filler_at s b) 512
    message_runs = runs s (message_filler_at s b) (512 * b) 5 8 (byte s (512 * b + 4)) (omega arith) (omega arith) in_message

  pub filler_short : length s ≡ 1024 → filler_right s ≡ (all_to (filler_at s) 512 && all_to (message_filler_at s 1) 512)
  unfolding filler_right
  filler_short e = ap (all_to (filler_at s)) e ∙ all_cut (filler_at s) 512 512

  pub filler_long : length s ≡ 1536 → filler_right s ≡ (all_to (filler_at s) 512 && all_to (message_filler_at s 1) 512 && all_to (message_filler_at s 2) 512)
  unfolding filler_right
  filler_long e =
      ap (all_to (filler_at s)) e ∙ all_cut (filler_at s) 1024 512
      ∙ ap (λ x. x && all_to (message_filler_at s 2) 512) (all_cut (filler_at s) 512 512)
