-- What is shown of a read's result.
use Prim.Native.Nat.{ℕ, ◌≤◌}
use mathlib.Core.Path.{◌≡◌, refl}
use mathlib.Core.List.{List}
use mathlib.Core.Bool.{Bool, true, false}
use lib.Dec.{eqb}
use native.Mathlib.Omega.{arith}
use borrow.Author.Tests.{eqb-true}
use Rattle.set_plan.specs.Record.{zero_plan}
use Rattle.set_plan.proofs.Accepted.{accepted, nodes_few, rows_few}
use Rattle.set_reader.specs.Layout.{plan_of}
use Rattle.set_reader.specs.Read.{set_refusal, read_set}
use Rattle.set_reader.proofs.Accepted.{accepted-set}

-- a result's counts are those of an accepted plan, or zero
pub counts_few : (s : List ℕ) → ((read_set s).plan.nodecount ≤ 16) × ((read_set s).plan.rowcount ≤ 127)
unfolding read_set zero_plan
counts_few s = go (eqb (set_refusal s) 0) refl
  where
    go : (b : Bool) → eqb (set_refusal s) 0 ≡ b → ((read_set s).plan.nodecount ≤ 16) × ((read_set s).plan.rowcount ≤ 127)
    go true e =
        let a = accepted (plan_of s) (accepted-set s (eqb-true _ _ e)).plan in
        rw e (nodes_few (plan_of s) a.nodes, rows_few (plan_of s) a.rows)
    go false e = rw e (omega arith)
