use mathlib.Core.Path.{sym}
use Rattle.set_record.proofs.Records.{record_in, record_none}
use Rattle.set_record.proofs.fields.Record.new.Goals as goal

pub returns-then-bytes-eq-LENGTH : goal.returns-then-bytes-eq-LENGTH
returns-then-bytes-eq-LENGTH c = (c.if-bytes-eq-LENGTH.true, sym (record_in _ c.if-bytes-eq-LENGTH.true))

pub returns-else-bytes-eq-LENGTH : goal.returns-else-bytes-eq-LENGTH
returns-else-bytes-eq-LENGTH c = (c.if-bytes-eq-LENGTH.false, sym (record_none _ c.if-bytes-eq-LENGTH.false))
