-- Block by block. Assumes nothing.
use mathlib.Core.Path.{◌≡◌}
use native.Mathlib.Omega.{arith}
use Rattle.set_record.specs.Record.{record_of}
use Rattle.set_writer.specs.Write.{set_length}
use Rattle.set_writer.proofs.SetLengths.{length_least, length_short, length_long}
use Rattle.set_writer.proofs.BlockSpans.{short_put, long_put}
use Rattle.set_writer.proofs.set_blocks.put_data.Goals as goal

pub put_plan-requires : goal.put_plan-requires
put_plan-requires c = omega (arith, length_least (record_of c.args.plan.now).rowcount)

pub put_message-requires : goal.put_message-requires
put_message-requires c = omega (arith, length_least (record_of c.args.plan.now).rowcount)

pub put_message-requires-then-row_count-gt-BLOCK_ROWS : goal.put_message-requires-then-row_count-gt-BLOCK_ROWS
put_message-requires-then-row_count-gt-BLOCK_ROWS c = omega (arith, length_long (record_of c.args.plan.now).rowcount (omega (arith, c.row_count.ensures)))

pub returns-then-row_count-gt-BLOCK_ROWS : goal.returns-then-row_count-gt-BLOCK_ROWS
returns-then-row_count-gt-BLOCK_ROWS c =
    let p = record_of c.args.plan.now in
    let e : set_length p.rowcount ≡ 1536 = length_long p.rowcount (omega (arith, c.row_count.ensures)) in
    rw e (long_put p _ _ _ _ c.put_plan.ensures c.put_message.ensures c.put_message-then-row_count-gt-BLOCK_ROWS.ensures (omega arith))

pub returns-else-row_count-gt-BLOCK_ROWS : goal.returns-else-row_count-gt-BLOCK_ROWS
returns-else-row_count-gt-BLOCK_ROWS c =
    let p = record_of c.args.plan.now in
    let e : set_length p.rowcount ≡ 1024 = length_short p.rowcount (omega (arith, c.row_count.ensures)) in
    rw e (short_put p _ _ _ c.put_plan.ensures c.put_message.ensures (omega arith))
