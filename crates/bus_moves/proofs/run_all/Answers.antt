-- The records so far are moves, and the world is that of these moves. Assumes nothing.
use mathlib.Core.Path.{ap, sym, ◌∙◌}
use mathlib.Core.Bool.{Bool}
use native.Mathlib.Omega.{arith}
use Rattle.base_lists.proofs.AllAny.{all_none, all_more}
use Rattle.bus.specs.World.{power_on}
use Rattle.bus_moves.specs.Decoding.{move_of, is_move}
use Rattle.bus_moves.specs.Lists.{ran_to}
use Rattle.bus_moves.proofs.Turns.{run_none, run_more, ran_stopped, ran_all}
use Rattle.bus_moves.proofs.run_all.Goals as goal

pub loop-k-init : goal.loop-k-init
loop-k-init c = (all_none _, run_none _ _ _ (c.power_on-world.ensures ∙ ap power_on c.sleeps.ensures))

pub returns-then-not-is_move : goal.returns-then-not-is_move
returns-then-not-is_move c =
    let at = c.loop-k in
    ran_stopped _ _ at.k (omega (arith, c.loop-k-test.true, c.record_count-k-end.ensures))
    (ap is_move (sym c.record_at-bytes.ensures) ∙ sym c.is_move.ensures ∙ c.if-not-is_move.true)
    (c.refused.ensures ∙ ap (λ (s : Bool). ran_to 15 (power_on s)) c.sleeps-then-not-is_move.ensures)

pub loop-k-preserved : goal.loop-k-preserved
loop-k-preserved c =
    let at = c.loop-k in (
      all_more _ _ at.invariant.0 (ap is_move (sym c.record_at-bytes.ensures) ∙ sym c.is_move.ensures ∙ c.if-not-is_move.false),
      run_more _ _ at.k _ _ _ at.invariant.1 (c.move_of.ensures ∙ ap move_of c.record_at-bytes.ensures) c.act.ensures,
    )

pub returns : goal.returns
returns c =
    let at = c.loop-k in
    ran_all _ _ at.k (omega (arith, c.record_count-k-end.ensures)) at.invariant.0 at.invariant.1
