-- What an accepted plan keeps.
use Prim.Native.Nat.{ℕ, ◌≤◌}
use mathlib.Core.Path.{◌≡◌}
use mathlib.Core.Bool.{true}
use native.Mathlib.Omega.{arith}
use Rattle.base_lists.proofs.AllAny.{halves}
use Rattle.base_lists.proofs.Rules.{none_only}
use Rattle.set_plan.specs.declared.Times.{Times}
use Rattle.set_plan.specs.declared.Plan.{Plan}
use Rattle.set_plan.specs.Limits.{max_nodes, max_rows, least_time, most_time}
use Rattle.set_plan.specs.Profile.{profile_right}
use Rattle.set_plan.specs.Rules.{revision_right, times_right, nodes_right, rows_right, all_publish, plan_rules, plan_refusal}

pub record Accepted (p : Plan) : Type 0 where
  pub profile : profile_right p.profile ≡ true
  pub revision : revision_right p ≡ true
  pub times : times_right p.times ≡ true
  pub nodes : nodes_right p ≡ true
  pub rows : rows_right p ≡ true
  pub published : all_publish p ≡ true

pub accepted : (p : Plan) → plan_refusal p ≡ 0 → Accepted p
unfolding plan_refusal
accepted p e =
    let kept = none_only 3 (plan_rules p) (omega arith) e in
    record { profile = kept 0; revision = kept 1; times = kept 2; nodes = kept 3; rows = kept 4; published = kept 5 }

pub nodes_few : (p : Plan) → nodes_right p ≡ true → p.nodecount ≤ max_nodes
unfolding nodes_right
nodes_few p e = search halves

pub rows_few : (p : Plan) → rows_right p ≡ true → p.rowcount ≤ max_rows
unfolding rows_right
rows_few p e = search halves

pub rows_some : (p : Plan) → rows_right p ≡ true → 1 ≤ p.rowcount
unfolding rows_right
rows_some p e = search halves

-- each time of an accepted plan is within its limits
pub record InTime (t : ℕ) : Type 0 where
  pub least : least_time ≤ t
  pub most : t ≤ most_time

pub record TimesFit (t : Times) : Type 0 where
  pub window : InTime t.window
  pub stop : InTime t.stop
  pub sleep : InTime t.sleep
  pub quiet : InTime t.quiet
  pub recovery : InTime t.recovery
  pub space : InTime t.space
  pub start : InTime t.start

pub times_fit : (t : Times) → times_right t ≡ true → TimesFit t
unfolding times_right
times_fit t e =
    record {
      window = record { least = search halves depth 10; most = search halves depth 10 };
      stop = record { least = search halves depth 10; most = search halves depth 10 };
      sleep = record { least = search halves depth 10; most = search halves depth 10 };
      quiet = record { least = search halves depth 10; most = search halves depth 10 };
      recovery = record { least = search halves depth 10; most = search halves depth 10 };
      space = record { least = search halves depth 10; most = search halves depth 10 };
      start = record { least = search halves depth 10; most = search halves depth 10 };
    }
