-- By the tests, in their order. Assumes nothing.
use Rattle.std.proofs.Common.{◌≡◌, Bool, true, false, [], ◌∷◌, refl, sym, ap, ◌∙◌, rules}
use Rattle.base_lists.specs.Bounded.{if_else}
use Rattle.base_lists.specs.FirstBroken.{first_broken}
use Rattle.base_refusals.specs.declared.Refusal.{Refusal}
use Rattle.base_refusals.specs.Numbers.{number_of, unless}
use Rattle.base_refusals.proofs.Numbers.{not_zero}
use Rattle.set_plan.specs.Rules.{between, plan_refusal}
use Rattle.set_reader.specs.Layout.{plan_of}
use Rattle.set_reader.specs.Rules.{revisions_same, counts_right}
use Rattle.set_reader.proofs.Content.{wrong_count, plan-refused, filler_last}
use Rattle.set_reader.proofs.rules.judge_content.Goals as goal

pub returns-then-not-counts_right : goal.returns-then-not-counts_right
returns-then-not-counts_right c =
    let p = plan_of c.args.s.now in
    let is : number_of c.args.judged ≡ plan_refusal p = search rules in
    let same : revisions_same c.args.s.now ≡ true = search rules in
    c.with_wrong_count.ensures ∙ ap (λ k. if_else (between 4 6 k) k 7) is ∙ sym (wrong_count _ p (search rules) same (search rules))

pub returns-in_err-judged : goal.returns-in_err-judged
returns-in_err-judged c =
    let p = plan_of c.args.s.now in
    let is : number_of c.args.judged ≡ plan_refusal p = search rules in
    let same : revisions_same c.args.s.now ≡ true = search rules in
    let counts : counts_right c.args.s.now ≡ true = search rules in
    let e : number_of c.from_residual-in_err-judged.result ≡ number_of c.args.judged = search rules in
    e ∙ is ∙ sym (plan-refused _ p (search rules) same counts (λ z. not_zero c.in_err-judged.field-0.0 (sym (ap number_of (c.in_err-judged.was)) ∙ is ∙ z)))

last : (kept : Bool) → number_of (unless Refusal.Filler kept) ≡ first_broken 9 (kept ∷ [])
last true = refl
last false = refl

pub returns : goal.returns
returns c =
    let p = plan_of c.args.s.now in
    let is : 0 ≡ plan_refusal p = search rules in
    let same : revisions_same c.args.s.now ≡ true = search rules in
    let counts : counts_right c.args.s.now ≡ true = search rules in
    ap number_of c.unless-2.ensures ∙ last c.filler_right.result ∙ ap (λ b. first_broken 9 (b ∷ [])) c.filler_right.ensures ∙ sym (filler_last _ p (search rules) same counts (sym is))
