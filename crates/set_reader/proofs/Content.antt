-- Rules 4 to 9 judged as the reader does it: the bytes' half of 4, the plan's refusal, the bytes' half of 7, the filler.
use Prim.Native.Nat.{ℕ}
use mathlib.Core.Path.{◌≡◌, refl}
use mathlib.Core.List.{List, [], ◌∷◌}
use mathlib.Core.Bool.{Bool, true, false}
use lib.ListN.{length}
use native.Mathlib.Omega.{arith}
use borrow.Author.Tests.{ne_eqb, eqb-true}
use Rattle.base_lists.specs.Bounded.{if_else}
use Rattle.base_lists.specs.FirstBroken.{first_broken}
use Rattle.base_lists.proofs.Rules.{front_number, rest_number}
use Rattle.set_plan.specs.declared.Plan.{Plan}
use Rattle.set_plan.specs.Profile.{profile_right}
use Rattle.set_plan.specs.Rules.{between, revision_right, times_right, nodes_right, rows_right, all_publish, plan_rules, plan_refusal}
use Rattle.set_reader.specs.Rules.{length_right, revisions_same, counts_right, filler_right, content_rules}

-- a wrong count is 7 where the plan's rules give nothing below 7
wrong_count_row : (revision times nodes rows published filler : Bool)
    → first_broken 4 (revision ∷ times ∷ nodes ∷ false ∷ published ∷ filler ∷ [])
    ≡ if_else (between 4 6 (first_broken 4 (revision ∷ times ∷ nodes ∷ rows ∷ published ∷ []))) (first_broken 4 (revision ∷ times ∷ nodes ∷ rows ∷ published ∷ [])) 7
wrong_count_row false times nodes rows published filler = refl
wrong_count_row true false nodes rows published filler = refl
wrong_count_row true true false rows published filler = refl
wrong_count_row true true true false published filler = refl
wrong_count_row true true true true false filler = refl
wrong_count_row true true true true true filler = refl

module _ (s : List ℕ) (p : Plan) where
  pub other_revision : revisions_same s ≡ false → first_broken 4 (content_rules s p) ≡ 4
  other_revision e = rw e

  module _ (right : profile_right p.profile ≡ true) (same : revisions_same s ≡ true) where
    pub wrong_count : counts_right s ≡ false → first_broken 4 (content_rules s p) ≡ if_else (between 4 6 (plan_refusal p)) (plan_refusal p) 7
    unfolding plan_refusal
    wrong_count e = rw (right, same, e) (wrong_count_row (revision_right p) (times_right p.times) (nodes_right p) (rows_right p) (all_publish p) (filler_right s))

    module _ (counts : counts_right s ≡ true) where
      pub plan-refused : (plan_refusal p ≡ 0 → ⊥) → first_broken 4 (content_rules s p) ≡ plan_refusal p
      unfolding plan_refusal
      plan-refused n = rw (right, same, counts) (rw right at (front_number 3 (plan_rules p) (filler_right s ∷ []) n))

      pub filler_last : plan_refusal p ≡ 0 → first_broken 4 (content_rules s p) ≡ first_broken 9 (filler_right s ∷ [])
      unfolding plan_refusal
      filler_last e = rw (same, counts) (rw right at (rest_number 3 (plan_rules p) (filler_right s ∷ []) (omega arith) e))

-- a right length that is not the short one
pub length_long : (s : List ℕ) → length_right s ≡ true → (length s ≡ 1024 → ⊥) → length s ≡ 1536
unfolding length_right
length_long s e n = eqb-true _ _ (rw (ne_eqb (length s) 1024 n) at e)
