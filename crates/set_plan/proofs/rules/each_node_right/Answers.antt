-- Each node so far is right, and its address is marked. Assumes nothing.
use Rattle.std.proofs.Common.{arith, ◌≡◌, ◌<◌, ◌∙◌, sym, ap, refl, ℕ, List, false}
use Rattle.std.proofs.lemmas.List.{length-set, get_or-replicate}
use borrow.Author.Tests.{eq-eqb, ne_eqb}
use Rattle.base_lists.specs.Bounded.{any_to}
use Rattle.base_lists.proofs.AllAny.{all_none, all_more, all_false, any_none}
use Rattle.base_lists.proofs.Tables.{marked_more}
use Rattle.set_plan.specs.declared.NodeEntry.{NodeEntry}
use Rattle.set_plan.specs.Record.{entry_at}
use Rattle.set_plan.specs.Rules.{entry_right}
use Rattle.set_plan.proofs.Addresses.{has_address, wrong_entry, again, right_new}
use Rattle.set_plan.proofs.rules.each_node_right.Goals as goal
use Rattle.set_plan.proofs.rules.each_node_right.Goals.{then-not-entry_right-via-then-not-entry_right, then-not-entry_right-via-else-not-entry_right+then-taken-address}

pub returns-then-not-entry_right : goal.returns-then-not-entry_right
returns-then-not-entry_right g c = λ nodes own.
    let l = c.loop-k in
    let e : c.entry-entry.result ≡ entry_at nodes l.k = own l.k c.entry-entry.result c.loop-k-test.true c.entry-entry.ensures in
    let a : c.from-address.result ≡ (entry_at nodes l.k).address = c.from-address.ensures ∙ ap (λ (x : NodeEntry). x.address) e in
    sym (all_false _ _ l.k c.loop-k-test.true (elim c.then-not-entry_right.branch [
      | then-not-entry_right-via-then-not-entry_right w ↦ wrong_entry nodes l.k
          (ap entry_right (sym e) ∙ sym c.entry_right.ensures ∙ w.if-not-entry_right.true)
      | then-not-entry_right-via-else-not-entry_right+then-taken-address w ↦ again nodes l.k
          (ap (λ x. any_to (has_address nodes x) l.k) (sym a) ∙ sym (l.invariant.marked nodes own c.from-address.result (omega arith)) ∙ w.if-taken-address.true)
    ]))

pub loop-k-init : goal.loop-k-init
loop-k-init g c = record { size = refl; right = λ nodes own. all_none _; marked = λ nodes own a h. get_or-replicate 256 a false false h ∙ sym (any_none _) }

pub loop-k-preserved : goal.loop-k-preserved
unfolding has_address
loop-k-preserved g c =
    let l = c.loop-k in
    let address = c.from-address in
    let same = λ (nodes : List NodeEntry) (own : (k : ℕ) (e : NodeEntry) → k < c.args.count → goal.E-post g c.args.entry k e → e ≡ entry_at nodes k).
    own l.k c.entry-entry.result c.loop-k-test.true c.entry-entry.ensures in
    let at = λ (nodes : List NodeEntry) (e : c.entry-entry.result ≡ entry_at nodes l.k). address.ensures ∙ ap (λ (x : NodeEntry). x.address) e in
    record {
      size = simp length-set l.invariant.size;
      right = λ nodes own.
          let e = same nodes own in
          all_more _ _ (l.invariant.right nodes own)
          (right_new nodes l.k (ap entry_right (sym e) ∙ sym c.entry_right.ensures ∙ c.if-not-entry_right.false)
          (ap (λ x. any_to (has_address nodes x) l.k) (sym (at nodes e)) ∙ sym (l.invariant.marked nodes own address.result (omega arith)) ∙ c.if-taken-address.false));
      marked = λ nodes own x h.
          let a = at nodes (same nodes own) in
          marked_more (has_address nodes) l.taken l.k address.result (omega arith) (eq-eqb _ _ (sym a)) (λ j n. ne_eqb _ _ (λ w. n (sym w ∙ sym a)))
          (λ j b. l.invariant.marked nodes own j (omega arith)) x (omega arith);
    }
