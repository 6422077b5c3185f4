-- By computation. Assumes nothing.
use mathlib.Core.Path.{◌∙◌}
use native.Mathlib.Omega.{arith}
use Rattle.set_record.proofs.FourBytes.{two_be}
use Rattle.set_writer.specs.Write.{message_head}
use Rattle.set_writer.proofs.set_blocks.message_head.Goals as goal

pub returns : goal.returns
unfolding message_head
returns c =
    let v = c.to_be_bytes.ensures ∙ two_be c.args.revision (omega arith) in
    rw (v, c.rows_in_block-rows.ensures.0)
