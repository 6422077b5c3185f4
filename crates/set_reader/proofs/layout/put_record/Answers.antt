-- Run by run. Assumes nothing.
use Rattle.set_record.proofs.RecordSpans.{record_put}
use Rattle.set_reader.specs.Layout.{plan_of}
use borrow.Author.Rules.{rules}
use Rattle.set_reader.proofs.layout.put_record.Goals as goal

pub returns : goal.returns
unfolding plan_of
returns c = record_put (plan_of c.args.s.now) _ _ _ _ _ _ (search rules) c.head_of-head.ensures c.put.ensures c.put_entries.ensures (rw c.rowcount_of.ensures at c.put_rows.ensures) c.byte_at.ensures
