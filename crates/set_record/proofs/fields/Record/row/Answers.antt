use mathlib.Core.Path.{sym}
use Rattle.base_lists.proofs.Tables.{get_or-tab}
use Rattle.set_plan.specs.Record.{zero_row}
use Rattle.set_record.specs.Entries.{row_from}
use Rattle.set_record.specs.Record.{record_row}
use Rattle.set_record.proofs.fields.Record.row.Goals as goal

pub returns : goal.returns
unfolding row_from
returns c = sym (get_or-tab 127 (record_row c.args.self.bytes.now) c.args.j zero_row c.requires)
