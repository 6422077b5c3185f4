use mathlib.Core.Path.{refl, sym, ◌∙◌}
use borrow.Author.Rules.{rules}
use Rattle.base_lists.proofs.Tables.{tab_of, length-tab}
use Rattle.set_plan.specs.Record.{entry_at, row_at, zero_entry, zero_row}
use Rattle.set_record.specs.Record.{record_entry, record_row, plan_in}
use Rattle.base_lists.proofs.Made.{made}
use Rattle.set_record.proofs.fields.Record.plan.Goals as goal

pub returns : goal.returns
returns c =
    let s = c.args.self.bytes.now in
    let p = plan_in s in
    let nodes = made _ zero_entry (entry_at p.nodes) _ c.from_fn.result 16 (λ k y q h w. search rules) c.from_fn.ensures.items
    ∙ sym (tab_of zero_entry 16 (entry_at p.nodes) p.nodes (length-tab 16 (record_entry s)) (λ k h. refl)) in
    let rows = made _ zero_row (row_at p.rows) _ c.from_fn-2.result 127 (λ k y q h w. search rules) c.from_fn-2.ensures.items
    ∙ sym (tab_of zero_row 127 (row_at p.rows) p.rows (length-tab 127 (record_row s)) (λ k h. refl)) in
    λ i. record { revision = c.revision.ensures i; profile = c.profile.ensures i; nodecount = c.node_count.ensures i; times = c.times.ensures i; nodes = nodes i; rowcount = c.row_count.ensures i; rows = rows i }
