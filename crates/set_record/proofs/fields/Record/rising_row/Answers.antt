-- The rows from j on have been looked at. Assumes nothing.
use Prim.Native.Nat.{min, ◌-◌}
use mathlib.Core.Path.{◌≡◌, ap, ◌∙◌}
use native.Mathlib.Omega.{arith}
use Rattle.set_plan.specs.Record.{rows_used}
use Rattle.set_plan.specs.Find.{last_among, rising_row}
use Rattle.set_record.proofs.Rows.{last_here, last_below, last_none}
use Rattle.set_record.specs.Record.{plan_in}
use Rattle.set_record.proofs.fields.Record.rising_row.Goals as goal

pub loop-j-init : goal.loop-j-init
unfolding rising_row
loop-j-init c =
    let p = plan_in c.args.self.bytes.now in
    let e : c.min-j.result ≡ min c.args.reqid (rows_used p.rowcount) = omega (arith, c.min-j.ensures, c.rows_used.ensures.0) in
    ap (last_among p.rows c.args.reqid) e

pub returns-then-found-reqid : goal.returns-then-found-reqid
returns-then-found-reqid c =
    last_here _ (c.loop-j.j - 1) c.row-found.result c.row-found.ensures _ c.loop-j.j (omega arith) c.if-found-reqid.true ∙ c.loop-j.invariant

pub loop-j-preserved : goal.loop-j-preserved
loop-j-preserved c =
    last_below _ (c.loop-j.j - 1) c.row-found.result c.row-found.ensures _ c.loop-j.j (omega arith) c.if-found-reqid.false ∙ c.loop-j.invariant

pub returns : goal.returns
returns c = last_none _ _ c.loop-j.j (omega arith) ∙ c.loop-j.invariant
