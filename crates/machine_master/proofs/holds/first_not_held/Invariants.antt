-- Each permission so far is held. Assumes nothing.
use Rattle.std.proofs.Common.{◌≡◌, false}
use Rattle.base_lists.specs.Bounded.{any_to}
use Rattle.machine_master.specs.Sleeping.{not_held}
use Rattle.machine_master.proofs.holds.first_not_held.Given as goal

abbrev pub invariant-loop-i : goal.invariant-loop-i
invariant-loop-i l = any_to (not_held l.holds) l.i ≡ false
