-- The reader's numbers are exclusive and complete: each is given exactly where its rule is the first that is broken.
use Prim.Native.Nat.{ℕ, zero, suc, ◌+◌, ◌<◌}
use mathlib.Core.Path.{◌≡◌, refl, sym, ◌∙◌}
use mathlib.Core.List.{List}
use mathlib.Core.Bool.{Bool, true, false, ◌&&◌}
use lib.ListN.{get_or}
use lib.Dec.{eqb}
use native.Mathlib.Omega.{arith}
use borrow.Author.Tests.{eqb-true}
use Rattle.base_lists.proofs.Rules.{BrokenAt, number_only, number-given, none_only, none-given}
use Rattle.set_plan.specs.Profile.{profile_right}
use Rattle.set_plan.specs.Rules.{revision_right}
use Rattle.set_reader.specs.Layout.{plan_of}
use Rattle.set_reader.specs.Rules.{length_right, checks_right, types_right, revisions_same}
use Rattle.set_reader.specs.Read.{set_rules, set_refusal, read_set}

module _ (s : List ℕ) where
  pub result-number : (read_set s).refusal ≡ set_refusal s
  unfolding read_set
  result-number = go (eqb (set_refusal s) 0) refl
    where
      go : (b : Bool) → eqb (set_refusal s) 0 ≡ b → (read_set s).refusal ≡ set_refusal s
      go true e = rw e (sym (eqb-true _ _ e))
      go false e = rw e

  -- rule i + 1 ..
  pub given_only : (i : ℕ) → (read_set s).refusal ≡ 1 + i → BrokenAt i (set_rules s)
  unfolding set_refusal
  given_only i e = number_only 1 i (set_rules s) (omega arith) (sym result-number ∙ e)

  pub given_there : (i : ℕ) → BrokenAt i (set_rules s) → (read_set s).refusal ≡ 1 + i
  unfolding set_refusal
  given_there i h = result-number ∙ number-given 1 i (set_rules s) h

  -- .. and 0
  pub accepted_only : (read_set s).refusal ≡ 0 → (j : ℕ) → get_or (set_rules s) j true ≡ true
  unfolding set_refusal
  accepted_only e = none_only 1 (set_rules s) (omega arith) (sym result-number ∙ e)

  pub accepted_there : ((j : ℕ) → get_or (set_rules s) j true ≡ true) → (read_set s).refusal ≡ 0
  unfolding set_refusal
  accepted_there h = result-number ∙ none-given 1 (set_rules s) h

  -- 4, spelt out: blocks of two revisions, in a set whose length, checks, types and profile are right
  pub record OtherRevision : Type 0 where
    pub size : length_right s ≡ true
    pub checks : checks_right s ≡ true
    pub types : (types_right s && profile_right (plan_of s).profile) ≡ true
    pub other : (revisions_same s && revision_right (plan_of s)) ≡ false

  pub four_only : (read_set s).refusal ≡ 4 → OtherRevision
  four_only e =
      let b = given_only 3 e in
      record { size = b.before 0 (omega arith); checks = b.before 1 (omega arith); types = b.before 2 (omega arith); other = b.broken }

  pub four_there : OtherRevision → (read_set s).refusal ≡ 4
  four_there h = given_there 3 (record { broken = h.other; before = kept })
    where
      kept : (j : ℕ) → j < 3 → get_or (set_rules s) j true ≡ true
      kept zero q = h.size
      kept (suc zero) q = h.checks
      kept (suc (suc zero)) q = h.types
      kept (suc (suc (suc j))) q = absurd (omega arith)
