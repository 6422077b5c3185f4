use mathlib.Core.Path.{◌≡◌, ap, sym, ◌∙◌}
use native.Mathlib.Omega.{arith}
use Rattle.base_lists.proofs.AllAny.{any_none}
use Rattle.base_lists.proofs.First.{none_next}
use Rattle.set_plan.specs.Find.{find_row, row_among}
use Rattle.set_plan.proofs.Lookups.{among_none}
use Rattle.set_record.proofs.Rows.{other, found}
use Rattle.set_record.specs.Record.{plan_in}
use Rattle.set_record.proofs.fields.Record.find_row.Goals as goal

pub loop-j-init : goal.loop-j-init
loop-j-init c = any_none _

pub returns-then-row-reqid : goal.returns-then-row-reqid
unfolding find_row
returns-then-row-reqid c =
    let p = plan_in c.args.self.bytes.now in
    let used = c.rows_used-j-end in
    found p.rows c.loop-j.j c.row-row.result c.row-row.ensures c.args.reqid used.result (omega arith) c.loop-j.invariant c.if-row-reqid.true
    ∙ ap (row_among p.rows c.args.reqid) used.ensures.0

pub loop-j-preserved : goal.loop-j-preserved
loop-j-preserved c = none_next _ _ c.loop-j.invariant (other (plan_in c.args.self.bytes.now).rows c.loop-j.j c.row-row.result c.row-row.ensures c.args.reqid c.if-row-reqid.false)

pub returns : goal.returns
unfolding find_row
returns c =
    let p = plan_in c.args.self.bytes.now in
    let used = c.rows_used-j-end in
    let e : c.loop-j.j ≡ used.result = omega arith in
    sym (among_none p.rows c.args.reqid used.result (rw e at c.loop-j.invariant)) ∙ ap (row_among p.rows c.args.reqid) used.ensures.0
