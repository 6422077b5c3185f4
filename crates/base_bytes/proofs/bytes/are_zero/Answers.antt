-- The test so far is that of the definition; past the end all is zero. Assumes nothing.
use Rattle.std.proofs.Common.{◌≡◌, ◌∙◌, ap, sym, arith}
use Rattle.std.proofs.lemmas.List.{get_or_past}
use Rattle.base_lists.specs.Bounded.{all_to}
use Rattle.base_lists.proofs.AllAny.{all_none, all_next, all_upto}
use Rattle.base_bytes.specs.Bytes.{is_zero}
use Rattle.base_bytes.proofs.bytes.are_zero.Goals as goal

pub loop-i-init : goal.loop-i-init
loop-i-init c = sym (all_none _)

pub loop-i-preserved : goal.loop-i-preserved
loop-i-preserved c = cc (all_next _ _)

pub returns : goal.returns
returns c =
    let a = c.args in
    let e : c.loop-i.i ≡ c.reach-within.result = omega arith in
    c.loop-i.invariant ∙ ap (all_to (is_zero a.bytes.now a.start)) e
    ∙ all_upto _ _ a.count c.reach-within.ensures.most
    (λ i p q. rw (get_or_past a.bytes.now _ 0 (c.reach-within.ensures.outside i p q)))
