-- The loop's head: the number stands, the bytes are left under it, and the events that are left give the promise.
use Rattle.std.proofs.Common.{length, ◌≡◌}
use lib.ListN.{drop}
use Rattle.set_record.specs.Record.{record_of}
use Rattle.machine_batch.specs.Batch.{master_after, replies_to}
use Rattle.machine_batch.proofs.Loop.{replies_from}
use Rattle.packed_master.specs.States.{master_of}
use Rattle.cxpi_batch.specs.BatchCalls.{standing, left_under}
use Rattle.cxpi_batch.proofs.cxpi_master_batch.Given as goal

abbrev pub invariant-loop-i : goal.invariant-loop-i
invariant-loop-i l =
    (length l.replies ≡ length l.fn.replies)
    × (l.number ≡ standing (record_of l.plan) (master_of l.state))
    × (l.number ≡ standing (record_of l.plan) (master_of l.fn.state))
    × (l.state ≡ left_under l.number l.fn.state (master_of l.state))
    × (master_after (record_of l.plan) (master_of l.state) (drop l.i l.events) ≡ master_after (record_of l.plan) (master_of l.fn.state) l.events)
    × (replies_from (record_of l.plan) (master_of l.state) (drop l.i l.events) l.i l.replies ≡ replies_to (record_of l.plan) (master_of l.fn.state) l.events l.fn.replies)
