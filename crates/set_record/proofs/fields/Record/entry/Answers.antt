use mathlib.Core.Path.{sym}
use Rattle.base_lists.proofs.Tables.{get_or-tab}
use Rattle.set_plan.specs.Record.{zero_entry}
use Rattle.set_record.specs.Entries.{entry_from}
use Rattle.set_record.specs.Record.{record_entry}
use Rattle.set_record.proofs.fields.Record.entry.Goals as goal

pub returns : goal.returns
unfolding entry_from
returns c = sym (get_or-tab 16 (record_entry c.args.self.bytes.now) c.args.k zero_entry c.requires)
