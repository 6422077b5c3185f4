-- The numbers so far are marked. Assumes nothing.
use Rattle.std.proofs.Common.{arith, ◌≡◌, ◌∙◌, refl, sym, ap, false, length}
use Rattle.std.proofs.lemmas.List.{length-set, get_or-replicate}
use borrow.Author.Tests.{eq-eqb, ne_eqb}
use Rattle.base_lists.specs.Bounded.{any_to}
use Rattle.base_lists.proofs.AllAny.{any_none}
use Rattle.base_lists.proofs.Tables.{tab_of, marked_more}
use Rattle.set_plan.specs.Rules.{is_from, publishes}
use Rattle.set_plan.proofs.rules.publishers.Goals as goal

pub loop-row-init : goal.loop-row-init
loop-row-init c = record { size = refl; marked = λ k p. get_or-replicate 256 k false false p ∙ sym (any_none _) }

pub loop-row-preserved : goal.loop-row-preserved
unfolding is_from
loop-row-preserved c =
    let l = c.loop-row in
    let e = c.from.ensures in
    record {
      size = simp length-set l.invariant.size;
      marked = λ k q. marked_more (is_from c.args.rows.now) l.seen l.row-index c.from.result (omega arith)
          (eq-eqb _ _ (sym e)) (λ i n. ne_eqb _ _ (λ w. n (sym w ∙ sym e))) (λ i b. l.invariant.marked i (omega arith)) k (omega arith);
    }

pub returns : goal.returns
unfolding publishes
returns c =
    let l = c.loop-row in
    let e : l.row-index ≡ length c.args.rows.now = omega arith in
    tab_of false 256 _ _ l.invariant.size (λ i p. l.invariant.marked i p ∙ ap (any_to (is_from c.args.rows.now i)) e)
