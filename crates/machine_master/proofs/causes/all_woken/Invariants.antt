-- The places passed have what the definition says. Assumes nothing.
use Rattle.std.proofs.Common.{◌≡◌, ℕ, ◌<◌, length, get_or}
use Rattle.machine_master.specs.Changes.{woken_at}
use Rattle.machine_master.proofs.causes.all_woken.Given as goal

abbrev pub invariant-loop-i : goal.invariant-loop-i
invariant-loop-i l = (length l.next ≡ 16) × ((k : ℕ) → k < l.i → get_or l.next k 0 ≡ woken_at l.holds l.causes k)
