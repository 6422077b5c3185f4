-- The state's byte, and zeros. Assumes nothing.
use mathlib.Core.Path.{ap, ◌∙◌}
use Rattle.machine_state.specs.Bytes.{state_byte}
use Rattle.packed_node.proofs.Heads.{power_on_put}
use Rattle.packed_node.proofs.states.put_power_on.Goals as goal

pub returns : goal.returns
returns c = power_on_put c.args.sleeps _ _ _ (c.from.ensures ∙ ap state_byte c.start_state.ensures) c.put.ensures
