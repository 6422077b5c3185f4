-- By the tests, in their order. Assumes nothing.
use Rattle.std.proofs.Common.{◌≡◌, Bool, true, false, ◌&&◌, [], ◌∷◌, refl, ap, ap₂, ◌∙◌, rules}
use Rattle.base_lists.specs.FirstBroken.{first_broken}
use Rattle.base_refusals.specs.declared.Refusal.{Refusal}
use Rattle.base_refusals.specs.Numbers.{number_of, unless}
use Rattle.set_plan.specs.Profile.{profile_right}
use Rattle.set_reader.specs.Layout.{plan_of}
use Rattle.set_reader.specs.Rules.{length_right, checks_right}
use Rattle.set_reader.proofs.rules.judge_shape.Goals as goal

last : (kept : Bool) → number_of (unless Refusal.WrongBlock kept) ≡ first_broken 3 (kept ∷ [])
last true = refl
last false = refl

pub returns : goal.returns
unfolding plan_of
returns c =
    let size : length_right c.args.s.now ≡ true = search rules in
    let checks : checks_right c.args.s.now ≡ true = search rules in
    rw (size, checks) (ap number_of c.unless-3.ensures ∙ last _ ∙ ap (λ b. first_broken 3 (b ∷ [])) (ap₂ ◌&&◌ c.types_right.ensures (c.profile_right.ensures ∙ ap profile_right c.byte_at.ensures)))
