-- Head, permissions, counts and causes, one behind the other. Assumes nothing.
use mathlib.Core.Path.{◌≡◌}
use borrow.Author.Rules.{rules}
use lib.ListN.{length}
use Rattle.packed_master.proofs.StateTrips.{master_put}
use Rattle.packed_master.proofs.states.put_master.Goals as goal

pub returns : goal.returns
returns c =
    let long : length c.args.master.counts ≡ 128 = search rules in
    master_put _ long _ _ _ _ _ _ _ c.master_head.ensures c.holds_bytes.ensures c.put.ensures c.put-2.ensures c.put-3.ensures c.put-4.ensures
