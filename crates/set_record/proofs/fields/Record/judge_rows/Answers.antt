use mathlib.Core.Path.{◌≡◌, refl, ap, sym, ◌∙◌}
use mathlib.Core.Bool.{true, false}
use lib.ListN.{length-set, get_or-replicate}
use native.Mathlib.Omega.{arith}
use borrow.Author.Tests.{eq-eqb, ne_eqb}
use Rattle.base_lists.specs.Bounded.{any_to}
use Rattle.base_lists.proofs.AllAny.{all_none, all_more, all_false, any_none}
use Rattle.base_lists.proofs.Tables.{marked_more}
use Rattle.set_plan.specs.Rules.{reqid_before, is_from, publishes}
use Rattle.set_record.proofs.Rows.{its_publisher, next_before, judged, refuses_7, refuses_8, keeps}
use borrow.Author.Rules.{rules}
use Rattle.set_record.specs.Record.{plan_in}
use Rattle.set_record.proofs.fields.Record.judge_rows.Goals as goal

pub loop-j-init : goal.loop-j-init
unfolding reqid_before
loop-j-init c = record { right = all_none _; before = refl; long = refl; marked = λ a p. get_or-replicate 256 a false false p ∙ sym (any_none _) }

pub returns-then-not-row_after : goal.returns-then-not-row_after
returns-then-not-row_after c =
    let l = c.loop-j in
    let rows = (plan_in c.args.self.bytes.now).rows in
    let n = c.args.nodecount in
    let r = c.row-row in
    refuses_7 rows n c.args.count (all_false _ _ l.j (omega arith)
    (judged rows l.j r.result r.ensures n l.before false l.invariant.before (sym c.row_after.ensures ∙ c.if-not-row_after.true)))

pub loop-j-preserved : goal.loop-j-preserved
unfolding is_from
loop-j-preserved c =
    let l = c.loop-j in
    let rows = (plan_in c.args.self.bytes.now).rows in
    let n = c.args.nodecount in
    let r = c.row-row in
    let e = c.from.ensures in
    let own = its_publisher rows l.j r.result r.ensures in record {
      right = all_more _ _ l.invariant.right (judged rows l.j r.result r.ensures n l.before true l.invariant.before (sym c.row_after.ensures ∙ c.if-not-row_after.false));
      before = next_before rows l.j r.result r.ensures;
      long = simp length-set (search rules);
      marked = λ k q. marked_more (is_from rows) l.seen l.j c.from.result (omega arith)
          (eq-eqb _ _ (own ∙ sym e)) (λ i w. ne_eqb _ _ (λ z. w (sym z ∙ own ∙ sym e))) (λ i b. l.invariant.marked i (omega (arith, l.invariant.long))) k (omega (arith, l.invariant.long));
    }

pub loop-k-init : goal.loop-k-init
loop-k-init c = all_none _

pub returns-then-not-seen-k : goal.returns-then-not-seen-k
unfolding publishes
returns-then-not-seen-k c =
    let j = c.loop-j in
    let k = c.loop-k in
    let rows = (plan_in c.args.self.bytes.now).rows in
    let e : j.j ≡ c.args.count = omega arith in
    refuses_8 rows c.args.nodecount c.args.count (rw e at j.invariant.right)
    (all_false _ _ k.k (omega arith) (ap (any_to (is_from rows k.k)) (sym e) ∙ sym (j.invariant.marked k.k (search rules)) ∙ c.if-not-seen-k.true))

pub loop-k-preserved : goal.loop-k-preserved
unfolding publishes
loop-k-preserved c =
    let j = c.loop-j in
    let k = c.loop-k in
    let rows = (plan_in c.args.self.bytes.now).rows in
    let e : j.j ≡ c.args.count = omega arith in
    all_more _ _ k.invariant (ap (any_to (is_from rows k.k)) (sym e) ∙ sym (j.invariant.marked k.k (search rules)) ∙ c.if-not-seen-k.false)

pub returns : goal.returns
returns c =
    let j = c.loop-j in
    let k = c.loop-k in
    let rows = (plan_in c.args.self.bytes.now).rows in
    let e : j.j ≡ c.args.count = omega arith in
    let f : k.k ≡ c.args.nodecount = omega arith in
    keeps rows c.args.nodecount c.args.count (rw e at j.invariant.right) (rw f at k.invariant)
