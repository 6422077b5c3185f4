-- How many counts so far are not below the limit: none where the test holds of each. Assumes nothing.
use Prim.Native.Nat.{ℕ, ◌+◌}
use mathlib.Core.Path.{◌≡◌, refl, ap, ap₂, sym, ◌∙◌}
use mathlib.Core.Bool.{Bool, true, false, ◌&&◌}
use native.Mathlib.Omega.{arith}
use lib.Dec.{eqb}
use borrow.Author.Tests.{eq-eqb, ne_eqb, eqb-true, eqb-false}
use Rattle.base_lists.specs.Bounded.{all_to}
use Rattle.base_lists.proofs.AllAny.{all_next, all_none}
use Rattle.machine_state.specs.Counts.{count_below, counts_below}
use borrow.Author.Rules.{rules}
use Rattle.machine_state.proofs.counts_below.Goals as goal

both-none : (a b : ℕ) → eqb (a + b) 0 ≡ (eqb a 0 && eqb b 0)
both-none a b = go (eqb a 0) (eqb b 0) refl refl
  where
    go : (x y : Bool) → eqb a 0 ≡ x → eqb b 0 ≡ y → eqb (a + b) 0 ≡ (x && y)
    go true true e f =
        let u : a ≡ 0 = eqb-true _ _ e in
        let v : b ≡ 0 = eqb-true _ _ f in
        eq-eqb (a + b) 0 (omega arith)
    go true false e f = ne_eqb (a + b) 0 (λ w. eqb-false b 0 f (omega arith))
    go false y e f = ne_eqb (a + b) 0 (λ w. eqb-false a 0 e (omega arith))

pub loop-count-init : goal.loop-count-init
loop-count-init c = (search rules, sym (all_none _))

pub loop-count-preserved : goal.loop-count-preserved
loop-count-preserved c =
    let l = c.loop-count in
    (omega (arith, c.past-above.ensures.1), both-none l.above c.past-above.result ∙ ap₂ ◌&&◌ l.invariant.1 c.past-above.ensures.0 ∙ sym (all_next _ _))

pub returns : goal.returns
unfolding counts_below
returns c =
    let e : c.loop-count.count-index ≡ 128 = omega arith in
    c.loop-count.invariant.1 ∙ ap (all_to (count_below c.args.limit c.args.counts)) e
