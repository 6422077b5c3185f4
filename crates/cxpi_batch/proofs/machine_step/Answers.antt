-- By the machine.
use Rattle.std.proofs.Common.{rules}
use Rattle.cxpi_batch.proofs.BatchStates.{machine_done}
use Rattle.cxpi_batch.proofs.machine_step.Goals as goal

-- src/lib.rt:45:1
pub returns : goal.returns
returns c =
    let given = c.step_on-given in
    machine_done _ _ c.args.event given.result c.command_number.result _ c.requires given.ensures c.command_number.ensures (record { holds = search rules; causes = search rules; counts = search rules }) c.put_master.ensures
