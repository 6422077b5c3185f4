-- By the plan's number.
use Rattle.base_refusals.proofs.Numbers.{not_zero}
use Rattle.cxpi.proofs.MasterSteps.{master_refused}
use Rattle.cxpi.proofs.masters.cxpi_master_step.Goals as goal

pub returns-in-Err : goal.returns-in-Err
returns-in-Err c =
    master_refused c.args.plan.now c.args.state.now c.args.event.now c.args.reply.now _ _ _ c.in-Err.ensures (not_zero c.in-Err.refusal) c.refused.ensures
