-- The test of the places passed. Assumes nothing.
use Rattle.std.proofs.Common.{◌≡◌, ℕ, ◌+◌, Bool, true, false, ◌&&◌, sym, refl, arith}
use Rattle.base_lists.specs.Bounded.{all_to}
use Rattle.base_lists.proofs.AllAny.{all_none, all_next}
use Rattle.machine_master.specs.Range.{hold_right_at, holds_right, causes_right}
use Rattle.machine_master.proofs.range.nodes_right.Goals as goal

both-next : (r h w : Bool) (f g : ℕ → Bool) (i : ℕ) → r ≡ (all_to f i && all_to g i) → h ≡ f i → w ≡ g i → (r && (h && w)) ≡ (all_to f (i + 1) && all_to g (i + 1))
both-next r h w f g i e a b = rw (e, a, b, all_next f i, all_next g i) (shuffle (all_to f i) (all_to g i) (f i) (g i))
  where
    shuffle : (x y p q : Bool) → ((x && y) && (p && q)) ≡ ((x && p) && (y && q))
    shuffle true true p q = refl
    shuffle true false true q = refl
    shuffle true false false q = refl
    shuffle false y p q = refl

pub loop-i-init : goal.loop-i-init
loop-i-init c = sym (rw (all_none (hold_right_at _ _ _), all_none))

pub loop-i-preserved : goal.loop-i-preserved
loop-i-preserved c =
    let l = c.loop-i in
    both-next l.right c.hold_right.result c.cause_right.result _ _ l.i l.invariant c.hold_right.ensures c.cause_right.ensures

pub returns : goal.returns
unfolding holds_right causes_right
returns c =
    let l = c.loop-i in
    let e : l.i ≡ 16 = omega arith in
    rw e at l.invariant
