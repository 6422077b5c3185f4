-- Run by run. Assumes nothing.
use mathlib.Core.Path.{refl}
use Rattle.set_writer.proofs.Blocks.{put_parts}
use borrow.Author.Rules.{rules}
use Rattle.set_writer.proofs.set_blocks.put_block.Goals as goal

pub returns : goal.returns
returns c = put_parts _ c.args.head.now c.args.used.now _ _ _ _ (search rules) (search rules) c.put.ensures refl c.put_filled.ensures
