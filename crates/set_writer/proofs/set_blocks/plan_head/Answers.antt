-- By computation. Assumes nothing.
use mathlib.Core.Path.{◌∙◌}
use native.Mathlib.Omega.{arith}
use Rattle.set_record.proofs.FourBytes.{two_be}
use Rattle.set_writer.specs.Write.{plan_head}
use Rattle.set_writer.proofs.set_blocks.plan_head.Goals as goal

pub returns : goal.returns
unfolding plan_head
returns c =
    let v = c.to_be_bytes.ensures ∙ two_be c.revision_of.result (omega arith) in
    c.put-2.ensures ∙ rw (c.put.ensures, c.times_bytes-times.ensures, v, c.times_of.ensures, c.revision_of.ensures, c.node_count.ensures, c.profile_of.ensures)
