-- The record read back. Assumes nothing.
use Rattle.std.proofs.Common.{◌≡◌, replicate, refl, ap, sym, arith, ◌∙◌, rules}
use Rattle.base_refusals.specs.Numbers.{number, number_of}
use Rattle.base_refusals.proofs.Numbers.{not_zero}
use Rattle.set_record.specs.Record.{record_of}
use Rattle.set_reader.specs.Read.{refused, read_told}
use Rattle.set_reader.proofs.ReadResults.{read_number, read_back, told_refused}
use Rattle.set_reader.proofs.read.Goals as goal

pub returns-in_err-read_record : goal.returns-in_err-read_record
returns-in_err-read_record c =
    let r = c.in_err-read_record.field-0.0 in
    let e : read_told c.from_residual.result ≡ refused (number r) = search rules in
    let n : number r ≡ number_of c.read_record.result = sym (ap number_of (c.in_err-read_record.was)) in
    e ∙ told_refused c.args.set.now (number r) (not_zero r) (n ∙ c.read_record.ensures.0 ∙ read_number c.args.set.now 592 (omega arith))

pub returns : goal.returns
returns c =
    let a = c.read_record.ensures in
    λ i. record { refusal = ((let z : 0 ≡ number_of c.read_record.result = search rules in z) ∙ a.0 ∙ read_number c.args.set.now 592 (omega arith)) i; plan = (c.plan_of.ensures ∙ ap record_of a.1 ∙ read_back c.args.set.now (replicate 592 0) refl) i }
