-- Head and counts, one behind the other. Assumes nothing.
use Rattle.packed_node.proofs.Heads.{node_put}
use Rattle.packed_node.proofs.states.put_node.Goals as goal

pub returns : goal.returns
returns c = node_put _ _ _ _ _ c.node_head.ensures c.put.ensures c.put-2.ensures
