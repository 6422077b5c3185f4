-- The rows come last, judged in one pass. Assumes nothing.
use Rattle.std.proofs.Common.{◌≡◌, true, [], ◌∷◌, ◌∙◌, rules}
use Rattle.base_lists.specs.FirstBroken.{first_broken}
use Rattle.base_refusals.specs.Numbers.{number_of}
use Rattle.set_plan.specs.Rules.{between, rows_right, all_publish, plan_refusal}
use Rattle.set_record.specs.Record.{plan_in}
use Rattle.set_record.specs.RowsRefusal.{rows_refusal}
use Rattle.set_record.proofs.Refusals.{rows_rest}
use Rattle.set_record.proofs.fields.Record.judge.Goals as goal

pub returns : goal.returns
unfolding plan_refusal
returns c =
    let p = plan_in c.args.self.bytes.now in
    let judged : number_of c.judge_rows.result ≡ rows_refusal p.rows p.nodecount p.rowcount = search rules in
    let count : between 1 127 p.rowcount ≡ true = search rules in
    let front : first_broken 7 (rows_right p ∷ all_publish p ∷ []) ≡ plan_refusal p = search rules in
    judged ∙ rows_rest p count ∙ front
