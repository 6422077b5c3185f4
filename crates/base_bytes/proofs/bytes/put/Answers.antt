-- Each byte so far is stored; what lies past the end changes nothing. Assumes nothing.
use Rattle.std.proofs.Common.{◌≡◌, ◌∙◌, ap, take, arith}
use Rattle.std.proofs.lemmas.List.{length-set}
use Rattle.std.proofs.lemmas.List.Edits.{sets}
use Rattle.base_lists.proofs.Stores.{sets_more, sets_reach}
use Rattle.base_bytes.proofs.bytes.put.Goals as goal

pub loop-i-preserved : goal.loop-i-preserved
loop-i-preserved c =
    let l = c.loop-i in
    let a = c.args in
    (simp length-set l.invariant.0, sets_more a.source.now a.buffer.now l.buffer a.start l.i 0 (omega arith) l.invariant.1)

pub returns : goal.returns
returns c =
    let a = c.args in
    let m = c.reach-within.result in
    let e : c.loop-i.i ≡ m = omega arith in
    c.loop-i.invariant.1 ∙ ap (λ k. sets a.buffer.now a.start (take k a.source.now)) e
    ∙ sets_reach a.source.now a.buffer.now a.start m c.reach-within.ensures.most (λ p. c.reach-within.ensures.outside m (omega arith) p)
