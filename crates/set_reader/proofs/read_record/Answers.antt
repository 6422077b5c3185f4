-- By the two judgements. Assumes nothing.
use Rattle.std.proofs.Common.{◌≡◌, replicate, refl, ap, sym, ◌∙◌, rules}
use borrow.Author.Tests.{leb-true, leb-false}
use Rattle.base_lists.specs.FirstBroken.{first_broken}
use Rattle.base_refusals.specs.Numbers.{number_of}
use Rattle.base_refusals.proofs.Numbers.{not_zero, kept, broken}
use Rattle.set_plan.specs.Rules.{plan_refusal}
use Rattle.set_record.specs.Record.{record_of}
use Rattle.set_record.proofs.Records.{record_whole}
use Rattle.set_reader.specs.Layout.{plan_of}
use Rattle.set_reader.specs.Rules.{shape_rules, content_rules}
use Rattle.set_reader.proofs.ReadResults.{length_kept, profile_kept, by_shape, by_content, read_refused, read_short, read_done, record_of-set}
use Rattle.set_reader.proofs.read_record.Goals as goal

pub returns-in-Err : goal.returns-in-Err
returns-in-Err c = read_refused c.args.set.now c.args.buffer.now _ _ (by_shape _ _ c.in-Err.ensures (not_zero c.in-Err.refusal)) (not_zero c.in-Err.refusal) c.clear.ensures

pub judge_content-requires : goal.judge_content-requires
judge_content-requires c =
    let shape : first_broken 1 (shape_rules c.args.set.now) ≡ 0 = search rules in
    (length_kept _ shape, profile_kept _ shape, c.judge.ensures ∙ ap plan_refusal (ap record_of (c.put_record.ensures ∙ record_whole _ (replicate 592 0) refl) ∙ record_of-set _))

pub returns-in-Err-judge_content : goal.returns-in-Err-judge_content
returns-in-Err-judge_content c =
    let shape : first_broken 1 (shape_rules c.args.set.now) ≡ 0 = search rules in
    read_refused c.args.set.now c.args.buffer.now _ _ (by_content _ shape _ c.in-Err-judge_content.ensures) (not_zero c.in-Err-judge_content.refusal) c.clear-in-Err-judge_content.ensures

pub returns-in_err-unless : goal.returns-in_err-unless
returns-in_err-unless c =
    let s = c.args.set.now in
    let shape : first_broken 1 (shape_rules s) ≡ 0 = search rules in
    let content : 0 ≡ first_broken 4 (content_rules s (plan_of s)) = search rules in
    let e : number_of c.from_residual.result ≡ 10 = search rules in
    rw e (read_short s c.args.buffer.now c.args.buffer.now (by_content _ shape _ content) (leb-false _ _ (broken _ _ _ (sym c.unless.ensures ∙ c.in_err-unless.was))))

pub returns : goal.returns
returns c =
    let s = c.args.set.now in
    let shape : first_broken 1 (shape_rules s) ≡ 0 = search rules in
    let content : 0 ≡ first_broken 4 (content_rules s (plan_of s)) = search rules in
    read_done s c.args.buffer.now _ (by_content _ shape _ content) _ (leb-true _ _ (kept _ _ _ (sym c.unless.ensures ∙ c.in_ok-unless.was))) (c.put_record.ensures ∙ record_whole _ (replicate 592 0) refl) c.put.ensures
