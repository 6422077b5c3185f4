-- The word's parts are the row's fields, and a publisher is below N or 255 where the number after it, 0 after 255, is at most N. Assumes nothing.
use Prim.Native.Nat.{ℕ, ◌+◌, ◌/◌, ◌%◌, ◌<◌}
use mathlib.Core.Path.{◌≡◌, refl}
use mathlib.Core.Bool.{Bool, true, false, ◌||◌}
use lib.Dec.{leb, ltb, eqb}
use native.Mathlib.Omega.{arith}
use borrow.Author.Tests.{le-leb, lt-leb, ltb-true, ltb-false, eqb-true, eqb-false}
use Rattle.set_plan.specs.Rules.{row_after}
use Rattle.set_plan.proofs.rules.row_after.Goals as goal

named : (p n : ℕ) → p < 256 → leb ((p + 1) % 256) n ≡ (ltb p n || eqb p 255)
named p n h = go (ltb p n) (eqb p 255) refl refl
  where
    go : (a b : Bool) → ltb p n ≡ a → eqb p 255 ≡ b → leb ((p + 1) % 256) n ≡ (a || b)
    go true b e f =
        let l : p < n = ltb-true _ _ e in
        le-leb ((p + 1) % 256) n (omega arith)
    go false true e f =
        let l : p ≡ 255 = eqb-true _ _ f in
        le-leb ((p + 1) % 256) n (omega arith)
    go false false e f =
        let l = ltb-false p n e in
        let d : p ≡ 255 → ⊥ = eqb-false _ _ f in
        lt-leb ((p + 1) % 256) n (omega arith)

pub returns : goal.returns
unfolding row_after
returns c =
    let word = c.row_word-word.result in
    let h : word / 256 % 256 < 256 = omega arith in
    rw (named (word / 256 % 256) c.args.nodecount h, c.row_word-word.ensures.reqid, c.row_word-word.ensures.publisher, c.row_word-word.ensures.kind)
