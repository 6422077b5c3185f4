-- The nodes passed are a tick older, where the plan has them. Assumes nothing.
use Rattle.std.proofs.Common.{◌≡◌, ◌+◌, min, length, ap, ◌∙◌, arith, rules}
use Rattle.packed_master_steps.specs.InPlace.{is_normal_at}
use Rattle.packed_master_steps.proofs.Aged.{so_far, so_far_long, next_place, all_aged}
use Rattle.packed_master_steps.proofs.age_nodes.Goals as goal

pub loop-k-preserved : goal.loop-k-preserved
loop-k-preserved c =
    let l = c.loop-k in
    let a = c.args in
    let e : c.age_node.new.state ≡ so_far a.state.now (is_normal_at a.state.now) a.window (min a.nodes (l.k + 1))
    = rw (c.age_node.ensures, c.byte_at-normal.ensures, l.invariant.1) (next_place _ _ _ a.nodes l.k (search rules)) in
    (ap length e ∙ so_far_long a.state.now (is_normal_at a.state.now) a.window (min a.nodes (l.k + 1)), e)

pub returns : goal.returns
returns c =
    let l = c.loop-k in
    let a = c.args in
    l.invariant.1 ∙ all_aged a.state.now a.window a.nodes (min a.nodes l.k) (omega arith)
