-- By the number, then by what is done in the bytes.
use Rattle.std.proofs.Common.{rules}
use Rattle.cxpi_batch.proofs.BatchStates.{refused_done, in_place_done, left_stands, left_done}
use Rattle.cxpi_batch.proofs.reply_of.Goals as goal

pub returns-then-number-state : goal.returns-then-number-state
returns-then-number-state c = rw c.replied.ensures (refused_done _ _ _ _ c.requires.0 c.if-number-state.true)

pub machine_step-requires : goal.machine_step-requires
machine_step-requires c =
    left_stands _ _ c.args.event _ c.event_of-happened.ensures _ c.requires.0 c.requires.1 c.if-number-state.false _ c.step_in_place-outcome.ensures.1 (search rules)

pub returns-in-Some : goal.returns-in-Some
returns-in-Some c =
    rw c.replied-in-Some.ensures (in_place_done _ _ c.args.event _ c.event_of-happened.ensures _ c.requires.0 c.requires.1 c.if-number-state.false _ c.step_in_place-outcome.ensures.1 _ (search rules))

pub returns-in-None : goal.returns-in-None
returns-in-None c =
    left_done _ _ c.args.event _ c.event_of-happened.ensures _ c.requires.0 c.requires.1 c.if-number-state.false _ c.step_in_place-outcome.ensures.1 (search rules) _ _ c.machine_step.ensures
