-- Run by run. Assumes nothing.
use mathlib.Core.Path.{◌∙◌}
use native.Mathlib.Omega.{arith}
use Rattle.set_writer.proofs.BlockSpans.{plan_put}
use borrow.Author.Rules.{rules}
use Rattle.set_writer.proofs.set_blocks.put_plan.Goals as goal

pub returns : goal.returns
returns c = plan_put c.args.plan.now (search rules) c.from.result _ _ _ (c.from.ensures ∙ c.node_count.ensures) (omega (arith, c.from.ensures, c.node_count.ensures)) c.plan_head.ensures c.put_block.ensures
