-- A refused plan leaves the buffer; an accepted one is put there, then its checks. Assumes nothing.
use mathlib.Core.Path.{◌≡◌, sym, ap, ◌∙◌}
use lib.ListN.{length}
use native.Mathlib.Omega.{arith}
use Rattle.std.proofs.Common.{Err, rules}
use Rattle.base_refusals.specs.Numbers.{number, number_of}
use Rattle.base_refusals.proofs.Numbers.{not_zero}
use Rattle.set_plan.proofs.Accepted.{accepted, nodes_few, rows_few}
use Rattle.set_record.specs.Record.{record_of}
use Rattle.set_record.proofs.Records.{accepted_long}
use Rattle.set_writer.specs.Write.{set_length, write_told, write_refusal, with_checks}
use Rattle.set_writer.proofs.Refusals.{room, refused-result, refused_buffer, done_result, done_buffer}
use Rattle.set_writer.proofs.write_record.Goals as goal

pub returns-in_err-judge : goal.returns-in_err-judge
returns-in_err-judge c =
    let r = c.in_err-judge.field-0.0 in
    let is : number r ≡ write_refusal (record_of c.args.plan.now) (length c.args.buffer.now) = sym (ap number_of c.in_err-judge.was) ∙ c.judge.ensures in
    let e : write_told c.from_residual.result ≡ write_told (Err r) = search rules in
    (e ∙ refused-result _ _ _ is (not_zero r), refused_buffer _ _ _ is (not_zero r))

pub put_data-requires : goal.put_data-requires
put_data-requires c =
    let p = record_of c.args.plan.now in
    let none : write_refusal p (length c.args.buffer.now) ≡ 0 = search rules in
    let w = room p _ none in
    let a = accepted p w.0 in
    (accepted_long c.args.plan.now w.0, w.1, nodes_few p a.nodes, rows_few p a.rows)

pub put_checks-requires : goal.put_checks-requires
put_checks-requires c =
    let p = record_of c.args.plan.now in
    let none : write_refusal p (length c.args.buffer.now) ≡ 0 = search rules in
    let e : set_length c.row_count-rowcount.result ≡ set_length p.rowcount = ap set_length c.row_count-rowcount.ensures in
    omega (arith, e, (room p _ none).1)

pub returns : goal.returns
returns c =
    let p = record_of c.args.plan.now in
    let none : write_refusal p (length c.args.buffer.now) ≡ 0 = search rules in
    let e = none in
    let r = c.row_count-rowcount.ensures in
    (done_result p _ _ e (rw r at c.set_length-length.ensures), rw r at c.put_checks.ensures ∙ ap (with_checks p.rowcount) c.put_data.ensures ∙ done_buffer p c.args.buffer.now e)
