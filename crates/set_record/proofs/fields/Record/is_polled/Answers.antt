use Prim.Native.Nat.{◌≤◌}
use lib.ListN.{length, get_or-eq_default}
use native.Mathlib.Omega.{arith}
use borrow.Author.Tests.{le-ltb}
use Rattle.base_lists.proofs.Tables.{length-tab}
use Rattle.set_plan.specs.Record.{zero_entry}
use Rattle.set_record.specs.Record.{record_entry, entries_in}
use Rattle.set_record.proofs.fields.Record.is_polled.Goals as goal

pub returns-else-node-lt-NODES : goal.returns-else-node-lt-NODES
returns-else-node-lt-NODES c =
    let s = c.args.self.bytes.now in
    let past : length (entries_in s) ≤ c.args.node = omega (arith, length-tab 16 (record_entry s), c.if-node-lt-NODES.false) in
    rw (le-ltb c.args.node 16 c.if-node-lt-NODES.false, get_or-eq_default (entries_in s) zero_entry past)
