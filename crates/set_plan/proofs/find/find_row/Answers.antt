-- No row so far has the ReqId. Assumes nothing.
use Rattle.std.proofs.Common.{arith, ◌≡◌, ◌∙◌, sym}
use Rattle.base_lists.proofs.AllAny.{any_none}
use Rattle.base_lists.proofs.First.{none_next}
use Rattle.set_plan.specs.Find.{find_row}
use Rattle.set_plan.specs.Record.{rows_used}
use Rattle.set_plan.proofs.InUse.{used_among}
use Rattle.set_plan.proofs.Lookups.{has, has_not, among_none, among_found}
use Rattle.set_plan.proofs.find.find_row.Goals as goal

pub loop-row-init : goal.loop-row-init
loop-row-init c = any_none _

pub returns-then-row-reqid : goal.returns-then-row-reqid
unfolding find_row
returns-then-row-reqid c =
    let u = c.rows_in_use-row-items in
    sym (among_found u.result.now c.args.reqid (rows_used c.args.p.rowcount) c.loop-row.row-index (omega arith)
    c.loop-row.invariant (has _ _ _ c.if-row-reqid.true))
    ∙ used_among c.args.p.rows u.result.now (rows_used c.args.p.rowcount) u.ensures.0 c.args.reqid

pub loop-row-preserved : goal.loop-row-preserved
loop-row-preserved c = none_next _ _ c.loop-row.invariant (has_not _ _ _ c.if-row-reqid.false)

pub returns : goal.returns
unfolding find_row
returns c =
    let u = c.rows_in_use-row-items in
    let e : c.loop-row.row-index ≡ rows_used c.args.p.rowcount = omega arith in
    sym (among_none u.result.now c.args.reqid (rows_used c.args.p.rowcount) (rw e at c.loop-row.invariant))
    ∙ used_among c.args.p.rows u.result.now (rows_used c.args.p.rowcount) u.ensures.0 c.args.reqid
