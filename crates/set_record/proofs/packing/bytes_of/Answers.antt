-- Run by run, and back. Assumes nothing.
use mathlib.Core.Path.{◌≡◌, refl, ap, ◌∙◌}
use mathlib.Core.List.{[]}
use lib.ListN.{length, replicate}
use native.Mathlib.Omega.{arith}
use borrow.Author.Rules.{rules}
use Rattle.set_plan.specs.Record.{entry_at, row_at, zero_entry, zero_row}
use Rattle.set_record.specs.Entries.{entry_bytes, row_bytes}
use Rattle.set_record.specs.Record.{record_of}
use Rattle.set_record.proofs.FourBytes.{four_put}
use Rattle.set_record.proofs.RecordSpans.{record_put}
use Rattle.set_record.proofs.RecordTrip.{record_back}
use Rattle.set_record.proofs.Records.{record_whole}
use Rattle.set_record.proofs.packing.bytes_of.Goals as goal

pub returns : goal.returns
returns c =
    let p = c.args.p in
    let nodes_items = c.map-nodes.ensures.items in
    let rows_items = c.map-rows.ensures.items in
    let nodes = four_put 19 16 (λ k. entry_bytes (entry_at p.nodes k)) c.map-nodes.result c.as_flattened.result.now c.put.new.buffer c.put-2.new.buffer nodes_items.long
    (λ k h. let w = nodes_items.at k zero_entry [] h in search rules) (λ k h. refl) c.as_flattened.ensures.value (omega (arith, c.as_flattened.ensures.len, nodes_items.long)) c.put-2.ensures (omega (arith, c.put.auto.buffer)) in
    let rows = four_put 83 127 (λ j. row_bytes (row_at p.rows j)) c.map-rows.result c.as_flattened-2.result.now c.put-2.new.buffer c.put-3.new.buffer rows_items.long
    (λ j h. let w = rows_items.at j zero_row [] h in search rules) (λ j h. refl) c.as_flattened-2.ensures.value (omega (arith, c.as_flattened-2.ensures.len, rows_items.long)) c.put-3.ensures (omega (arith, c.put.auto.buffer, c.put-2.auto.buffer)) in
    let e = record_put p (replicate 592 0) _ _ _ _ _ (omega arith) c.record_head-head.ensures c.put.ensures nodes rows refl
    ∙ record_whole p (replicate 592 0) refl in
    let nodes_long : length p.nodes ≡ 16 = search rules in
    let rows_long : length p.rows ≡ 127 = search rules in
    (e, ap record_of e ∙ record_back p nodes_long rows_long)
