-- The places passed hold what the definition says. Assumes nothing.
use Rattle.std.proofs.Common.{◌≡◌, ℕ, ◌<◌, length, get_or}
use Rattle.machine_master.specs.Changes.{no_hold}
use Rattle.machine_master.specs.Ticks.{older_at}
use Rattle.machine_master.proofs.holds.all_older.Given as goal

abbrev pub invariant-loop-i : goal.invariant-loop-i
invariant-loop-i l = (length l.next ≡ 16) × ((k : ℕ) → k < l.i → get_or l.next k no_hold ≡ older_at l.window l.holds k)
