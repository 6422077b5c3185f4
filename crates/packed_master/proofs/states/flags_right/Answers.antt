-- The test so far is that of the definition. Assumes nothing.
use Rattle.std.proofs.Common.{◌≡◌, rules, ap, ◌∙◌, arith}
use Rattle.base_lists.specs.Bounded.{all_to}
use Rattle.base_lists.proofs.AllAny.{all_next, all_none}
use Rattle.packed_master.specs.States.{flag_at}
use Rattle.packed_master.proofs.states.flags_right.Goals as goal

pub loop-k-init : goal.loop-k-init
loop-k-init c = search (rules, all_none)

pub loop-k-preserved : goal.loop-k-preserved
loop-k-preserved c = cc (all_next _ _)

pub returns : goal.returns
returns c =
    let e : c.loop-k.k ≡ 16 = omega arith in
    c.loop-k.invariant ∙ ap (all_to (flag_at c.args.bytes.now)) e
