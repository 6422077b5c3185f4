-- The totals so far are those of the block's check, whose total of totals is the sum of products. Assumes nothing.
use Rattle.std.proofs.Common.{◌≡◌, ◌∙◌, ◌-◌, ◌%◌, ap, sym, arith}
use Rattle.std.proofs.lemmas.List.{get_or_past}
use Rattle.base_bytes.specs.Check.{block_check, total_of_totals}
use Rattle.base_bytes.proofs.CheckTotals.{Line, line_of, check_products, check_zero}
use Rattle.base_bytes.proofs.check.block_check.Goals as goal

pub loop-i-init : goal.loop-i-init
loop-i-init c =
    let a = c.args in
    let r = c.reach-within in
    let none = check_zero a.bytes.now a.start (510 - r.result)
    (λ k p. get_or_past a.bytes.now _ 0 (r.ensures.outside (509 - k) (omega arith) (omega (arith, r.ensures.most)))) in
    record { total = sym none.0; totals = sym none.1 }

next : (c : goal.After-from-byte) → Line c.args.bytes.now c.args.start c.loop-i.i
next c = line_of c.args.bytes.now c.args.start (λ o. omega (arith, c.type_inv.bytes o)) c.loop-i.i (omega arith) (omega (arith, c.reach-within.ensures.most))

pub overflow_add-total : goal.overflow_add-total
overflow_add-total c = omega (arith, next c)

pub overflow_add-totals : goal.overflow_add-totals
overflow_add-totals c = omega (arith, next c)

pub loop-i-preserved : goal.loop-i-preserved
loop-i-preserved c = let n = next c in record { total = omega arith; totals = omega arith }

pub returns : goal.returns
unfolding block_check
returns c =
    let a = c.args in
    let e : 510 - c.loop-i.i ≡ 510 = omega arith in
    ap (λ x. x % 65521) (c.loop-i.invariant.totals ∙ ap (total_of_totals a.bytes.now a.start) e ∙ check_products a.bytes.now a.start)
