-- The nodes passed are a tick older, where the plan has them. Assumes nothing.
use Rattle.std.proofs.Common.{◌≡◌, min, length}
use Rattle.packed_master_steps.specs.InPlace.{is_normal_at}
use Rattle.packed_master_steps.proofs.Aged.{so_far}
use Rattle.packed_master_steps.proofs.age_nodes.Given as goal

abbrev pub invariant-loop-k : goal.invariant-loop-k
invariant-loop-k l = (length l.state ≡ length l.initial.state) × (l.state ≡ so_far l.initial.state (is_normal_at l.initial.state) l.window (min l.nodes l.k))
