-- Every case holds, by computation.
use mathlib.Core.Path.{refl}
use Rattle.base_lists.specs.Bounded.{sum_to, all_to, any_to, first_to, tab}
use Rattle.base_bytes.specs.Check.{block_check}
use Rattle.machine_state.specs.Counts.{counts_below}
use Rattle.set_plan.specs.Record.{zero_plan}
use Rattle.set_plan.specs.Rules.{times_right, entry_right, differs, node_right, nodes_right, reqid_before, row_after, row_right, rows_right, is_from, publishes, all_publish, plan_refusal}
use Rattle.set_plan.specs.Find.{has_reqid, row_among, find_row}
use Rattle.set_record.specs.Entries.{times_from, entry_from, row_from}
use Rattle.set_reader.specs.Layout.{entry_of, entries_of, rowcount_of, row_place, row_of, rows_of, plan_of}
use Rattle.set_reader.specs.Rules.{length_right, check_right, checks_right, block_type, type_right, types_right, revision_same, revisions_same, counts_right, named, filler_at, filler_right}
use Rattle.set_reader.specs.Read.{set_refusal, read_set}
use Rattle.set_writer.specs.Write.{with_check}
use Rattle.machine_master.specs.Changes.{all_woken}
use Rattle.machine_master.specs.Range.{holds_right, causes_right, in_range}
use Rattle.machine_master.specs.Ticks.{all_older, all_aged_out}
use Rattle.machine_master.specs.Sleeping.{not_held}
use Rattle.test_proved_cases.specs.Cases.{AllCasesHold, cases}

pub cases-hold : AllCasesHold cases
unfolding read_set set_refusal zero_plan plan_of times_from entry_from entry_of entries_of rowcount_of row_place row_from row_of rows_of length_right check_right checks_right block_type type_right types_right revision_same revisions_same counts_right named filler_at filler_right plan_refusal times_right entry_right differs node_right nodes_right reqid_before row_after row_right rows_right is_from publishes all_publish has_reqid row_among find_row with_check block_check counts_below in_range holds_right causes_right all_woken all_older all_aged_out not_held sum_to all_to any_to first_to tab
cases-hold = (refl, (refl, (refl, (refl, (refl, (refl, (refl, (refl, (refl, (refl, (refl, tt)))))))))))
