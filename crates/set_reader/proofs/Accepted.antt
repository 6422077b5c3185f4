-- What an accepted set keeps.
use Prim.Native.Nat.{ℕ}
use mathlib.Core.Path.{◌≡◌}
use mathlib.Core.List.{List}
use mathlib.Core.Bool.{true}
use native.Mathlib.Omega.{arith}
use Rattle.base_lists.proofs.AllAny.{and_l, and_r}
use Rattle.base_lists.proofs.Rules.{none_only}
use Rattle.set_plan.specs.Profile.{profile_right}
use Rattle.set_plan.specs.Rules.{revision_right, rows_right, plan_refusal}
use Rattle.set_reader.specs.Layout.{plan_of}
use Rattle.set_reader.specs.Rules.{length_right, checks_right, types_right, revisions_same, counts_right, filler_right}
use Rattle.set_reader.specs.Read.{set_rules, set_refusal}

pub record AcceptedSet (s : List ℕ) : Type 0 where
  pub size : length_right s ≡ true
  pub checks : checks_right s ≡ true
  pub types : types_right s ≡ true
  pub revisions : revisions_same s ≡ true
  pub counts : counts_right s ≡ true
  pub filler : filler_right s ≡ true
  pub plan : plan_refusal (plan_of s) ≡ 0

pub accepted-set : (s : List ℕ) → set_refusal s ≡ 0 → AcceptedSet s
unfolding set_refusal plan_refusal
accepted-set s e =
    let p = plan_of s in
    let kept = none_only 1 (set_rules s) (omega arith) e in
    record {
      size = kept 0;
      checks = kept 1;
      types = and_l (types_right s) (profile_right p.profile) (kept 2);
      revisions = and_l (revisions_same s) (revision_right p) (kept 3);
      counts = and_l (counts_right s) (rows_right p) (kept 6);
      filler = kept 8;
      plan = rw (and_r (types_right s) (profile_right p.profile) (kept 2), and_r (revisions_same s) (revision_right p) (kept 3), kept 4, kept 5, and_r (counts_right s) (rows_right p) (kept 6), kept 7);
    }
