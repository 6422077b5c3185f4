-- The front, then the counts, then the causes. Assumes nothing.
use mathlib.Core.Path.{ap, ◌∙◌}
use Rattle.machine_state.specs.Bytes.{state_byte}
use Rattle.packed_master.proofs.StateTrips.{power_on_put}
use Rattle.packed_master.proofs.states.put_power_on.Goals as goal

pub returns : goal.returns
returns c = power_on_put c.args.sleeps _ _ _ _ _ (c.from.ensures ∙ ap state_byte c.start_state.ensures) c.put.ensures c.put-2.ensures c.put-3.ensures
