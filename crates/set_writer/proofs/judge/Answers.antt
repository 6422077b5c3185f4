-- By the plan's own judgement, then the room. Assumes nothing.
use Rattle.std.proofs.Common.{◌≡◌, leb, sym, ap, ◌∙◌, rules}
use Rattle.base_refusals.specs.declared.Refusal.{Refusal}
use Rattle.base_refusals.specs.Numbers.{number_of, unless}
use Rattle.base_refusals.proofs.Numbers.{not_zero}
use Rattle.set_plan.specs.Rules.{plan_refusal}
use Rattle.set_record.specs.Record.{record_of}
use Rattle.set_writer.specs.Write.{set_length}
use Rattle.set_writer.proofs.Refusals.{plan-refused, by_room}
use Rattle.set_writer.proofs.judge.Goals as goal

pub returns-in_err-judge : goal.returns-in_err-judge
returns-in_err-judge c =
    let is : number_of c.from_residual.result ≡ plan_refusal (record_of c.args.plan.now) = search rules in
    is ∙ sym (plan-refused _ _ (λ z. not_zero c.in_err-judge.field-0.0 (sym (ap number_of c.in_err-judge.was) ∙ c.judge.ensures ∙ z)))

pub returns : goal.returns
returns c =
    let z : plan_refusal (record_of c.args.plan.now) ≡ 0 = search rules in
    let length = c.set_length.ensures ∙ ap set_length c.row_count.ensures in
    ap number_of c.unless.ensures ∙ ap (λ n. number_of (unless Refusal.BufferShort (leb n c.args.room))) length ∙ by_room _ _ z
