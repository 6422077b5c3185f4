-- Run by run. Assumes nothing.
use mathlib.Core.Path.{◌∙◌}
use native.Mathlib.Omega.{arith}
use Rattle.set_writer.proofs.BlockSpans.{message_put}
use borrow.Author.Rules.{rules}
use Rattle.set_writer.proofs.set_blocks.put_message.Goals as goal

pub returns : goal.returns
returns c =
    let e = c.row_count-rowcount.ensures in
    let n = c.from.ensures in
    let few = c.rows_in_block.ensures in
    message_put c.args.plan.now (search rules) c.args.b c.from.result _ _ _ (search rules) (n ∙ rw e at few.0) (omega (arith, n, few.1)) (omega (arith, n, few.2)) (c.message_head-head.ensures ∙ rw (c.revision_of.ensures, e)) c.put_block.ensures
