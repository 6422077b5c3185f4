-- Each permission so far is held. Assumes nothing.
use Rattle.std.proofs.Common.{◌≡◌, ◌≤◌, not, length, sym, ap, arith, rules}
use lib.ListN.{get_or-eq_default}
use Rattle.base_lists.proofs.AllAny.{any_none}
use Rattle.base_lists.proofs.First.{none_next, first_none, first_found}
use Rattle.machine_master.specs.declared.Hold.{Hold}
use Rattle.machine_master.specs.Changes.{no_hold}
use Rattle.machine_master.specs.Sleeping.{not_held}
use Rattle.machine_master.proofs.holds.first_not_held.Goals as goal

pub loop-i-init : goal.loop-i-init
loop-i-init c = any_none _

pub returns-then-i-ge-NODES : goal.returns-then-i-ge-NODES
unfolding not_held
returns-then-i-ge-NODES c =
    let l : length c.args.holds ≤ c.loop-i.i = search rules in
    sym (first_found _ _ c.loop-i.i (omega arith) c.loop-i.invariant (ap (λ (h : Hold). not h.held) (get_or-eq_default c.args.holds no_hold l)))

pub returns-then-not-hold : goal.returns-then-not-hold
unfolding not_held
returns-then-not-hold c = sym (first_found _ _ c.loop-i.i (omega arith) c.loop-i.invariant (search rules))

pub loop-i-preserved : goal.loop-i-preserved
unfolding not_held
loop-i-preserved c = none_next _ _ c.loop-i.invariant (search rules)

pub returns : goal.returns
returns c =
    let e : c.loop-i.i ≡ c.args.nodecount = omega arith in
    sym (first_none _ _ (rw e at c.loop-i.invariant))
