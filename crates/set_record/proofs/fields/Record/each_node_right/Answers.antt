use mathlib.Core.Path.{◌≡◌, refl, ap, sym, ◌∙◌}
use mathlib.Core.Bool.{false}
use lib.ListN.{length-set, get_or-replicate}
use native.Mathlib.Omega.{arith}
use borrow.Author.Tests.{eq-eqb, ne_eqb}
use Rattle.base_lists.specs.Bounded.{any_to}
use Rattle.base_lists.proofs.AllAny.{all_none, all_more, all_false, any_none}
use Rattle.base_lists.proofs.Tables.{marked_more}
use Rattle.set_plan.proofs.Addresses.{has_address}
use Rattle.set_record.proofs.Nodes.{its_address, wrong, taken_again, right}
use borrow.Author.Rules.{rules}
use Rattle.set_record.specs.Record.{plan_in}
use Rattle.set_record.proofs.fields.Record.each_node_right.Goals as goal

pub loop-k-init : goal.loop-k-init
loop-k-init c = record { right = all_none _; long = refl; marked = λ a p. get_or-replicate 256 a false false p ∙ sym (any_none _) }

pub returns-then-not-entry_right : goal.returns-then-not-entry_right
returns-then-not-entry_right c =
    let l = c.loop-k in
    let e = c.entry-entry in
    sym (all_false _ _ l.k (omega arith) (wrong (plan_in c.args.self.bytes.now).nodes l.k e.result e.ensures (sym c.entry_right.ensures ∙ c.if-not-entry_right.true)))

pub returns-then-taken-address : goal.returns-then-taken-address
returns-then-taken-address c =
    let l = c.loop-k in
    let nodes = (plan_in c.args.self.bytes.now).nodes in
    let e = c.entry-entry in
    let p = c.table_index-address.ensures in
    sym (all_false _ _ l.k (omega arith) (taken_again nodes l.k e.result e.ensures
    (ap (λ a. any_to (has_address nodes a) l.k) (sym p.0) ∙ sym (l.invariant.marked _ p.1) ∙ c.if-taken-address.true)))

pub loop-k-preserved : goal.loop-k-preserved
unfolding has_address
loop-k-preserved c =
    let l = c.loop-k in
    let nodes = (plan_in c.args.self.bytes.now).nodes in
    let e = c.entry-entry in
    let p = c.table_index-address.ensures in
    let new : any_to (has_address nodes e.result.address) l.k ≡ false
    = ap (λ a. any_to (has_address nodes a) l.k) (sym p.0) ∙ sym (l.invariant.marked _ p.1) ∙ c.if-taken-address.false in
    let own = its_address nodes l.k e.result e.ensures in record {
      right = all_more _ _ l.invariant.right (right nodes l.k e.result e.ensures (sym c.entry_right.ensures ∙ c.if-not-entry_right.false) new);
      long = simp length-set (search rules);
      marked = λ a q. marked_more (has_address nodes) l.taken l.k c.table_index-address.result (search rules)
          (eq-eqb _ _ (own ∙ sym p.0)) (λ i n. ne_eqb _ _ (λ w. n (sym w ∙ own ∙ sym p.0))) (λ i b. l.invariant.marked i (omega (arith, l.invariant.long))) a (omega (arith, l.invariant.long));
    }

pub returns : goal.returns
returns c =
    let l = c.loop-k in
    let e : l.k ≡ c.args.count = omega arith in
    sym (rw e at l.invariant.right)
