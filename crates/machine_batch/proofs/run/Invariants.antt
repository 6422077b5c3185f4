-- The events left and the replies so far give what the whole list gives.
use Rattle.std.proofs.Common.{◌≡◌, length, drop}
use Rattle.machine_batch.specs.Batch.{master_after}
use Rattle.machine_batch.proofs.Loop.{replies_from}
use Rattle.machine_batch.proofs.run.Given as goal

abbrev pub invariant-loop-i : goal.invariant-loop-i
invariant-loop-i l =
    (length l.replies ≡ length l.initial.replies)
    × (master_after l.plan l.fn.master l.events ≡ master_after l.plan l.current (drop l.i l.events))
    × (replies_from l.plan l.fn.master l.events 0 l.initial.replies ≡ replies_from l.plan l.current (drop l.i l.events) l.i l.replies)
