-- The rules look at used places only.
use Prim.Native.Nat.{ℕ, ◌-◌, ◌≤◌, ◌<◌}
use mathlib.Core.Path.{◌≡◌, refl, ap, ap₂, ◌∙◌}
use mathlib.Core.List.{List, [], ◌∷◌}
use mathlib.Core.Bool.{Bool, true, false, ◌&&◌, not, and-false}
use lib.Dec.{leb, eqb}
use native.Mathlib.Omega.{arith}
use borrow.Author.Tests.{lt-ltb, leb-true}
use Rattle.base_lists.specs.Bounded.{if_else}
use Rattle.base_lists.specs.FirstBroken.{first_broken}
use Rattle.base_lists.proofs.AllAny.{all_ext, any_ext}
use Rattle.base_lists.proofs.Tables.{get_or-tab}
use Rattle.set_plan.specs.declared.NodeEntry.{NodeEntry}
use Rattle.set_plan.specs.declared.Row.{Row}
use Rattle.set_plan.specs.declared.Plan.{Plan}
use Rattle.set_plan.specs.Limits.{max_nodes, max_rows}
use Rattle.set_plan.specs.Profile.{profile_right}
use Rattle.set_plan.specs.Record.{zero_entry, zero_row, entry_at, row_at, rows_used, used_entry, used_row, unused_zero}
use Rattle.set_plan.specs.Rules.{between, revision_right, times_right, entry_right, differs, node_right, nodes_right, reqid_before, row_after, row_right, rows_right, is_from, publishes, all_publish, plan_refusal}

-- a node's rule looks at the entries up to it
node_ext : (es fs : List NodeEntry) (k : ℕ) → ((j : ℕ) → j ≤ k → entry_at es j ≡ entry_at fs j) → node_right es k ≡ node_right fs k
unfolding node_right differs
node_ext es fs k h =
    ap₂ ◌&&◌ (ap entry_right (h k (omega arith)))
    (all_ext (differs es k) (differs fs k) k (λ j q. ap₂ (λ (x : NodeEntry) (y : NodeEntry). not (eqb x.address y.address)) (h j (omega arith)) (h k (omega arith))))

-- a row's rule looks at it and at the one before
pub row_ext : (n : ℕ) (rs qs : List Row) (k : ℕ) → ((j : ℕ) → j ≤ k → row_at rs j ≡ row_at qs j) → row_right n rs k ≡ row_right n qs k
unfolding row_right reqid_before
row_ext n rs qs k h = ap₂ (row_after n) (ap (λ (r : Row). if_else (eqb k 0) 0 r.reqid) (h (k - 1) (omega arith))) (h k (omega arith))

module _ (p : Plan) where
  pub entry_same : (k : ℕ) → k < max_nodes → k < p.nodecount → entry_at (unused_zero p).nodes k ≡ entry_at p.nodes k
  unfolding unused_zero used_entry
  entry_same k m h = get_or-tab max_nodes (used_entry p) k zero_entry m ∙ rw (lt-ltb k p.nodecount h)

  pub row_same : (j : ℕ) → j < max_rows → j < p.rowcount → row_at (unused_zero p).rows j ≡ row_at p.rows j
  unfolding unused_zero used_row
  row_same j m h = get_or-tab max_rows (used_row p) j zero_row m ∙ rw (lt-ltb j p.rowcount h)

  -- the rest is asked only where the count has its range
  within : (most : ℕ) (n : ℕ) (a b : Bool) → (n ≤ most → a ≡ b) → (between 1 most n && a) ≡ (between 1 most n && b)
  within most n a b h = go (leb n most) refl
    where
      go : (c : Bool) → leb n most ≡ c → (between 1 most n && a) ≡ (between 1 most n && b)
      go true e = ap (λ x. between 1 most n && x) (h (leb-true _ _ e))
      go false e = rw (e, and-false (leb 1 n))

  nodes_same : nodes_right (unused_zero p) ≡ nodes_right p
  unfolding nodes_right unused_zero
  nodes_same =
      within max_nodes p.nodecount _ _
      (λ m. all_ext (node_right (unused_zero p).nodes) (node_right p.nodes) p.nodecount
      (λ k h. node_ext (unused_zero p).nodes p.nodes k (λ j q. entry_same j (omega arith) (omega arith))))

  rows_same : rows_right (unused_zero p) ≡ rows_right p
  unfolding rows_right unused_zero
  rows_same =
      within max_rows p.rowcount _ _
      (λ m. all_ext (row_right p.nodecount (unused_zero p).rows) (row_right p.nodecount p.rows) p.rowcount
      (λ k h. row_ext p.nodecount (unused_zero p).rows p.rows k (λ j q. row_same j (omega arith) (omega arith))))

  published_same : all_publish (unused_zero p) ≡ all_publish p
  unfolding all_publish publishes is_from unused_zero
  published_same =
      all_ext (publishes (unused_zero p).rows (rows_used p.rowcount)) (publishes p.rows (rows_used p.rowcount)) p.nodecount
      (λ k h. any_ext (is_from (unused_zero p).rows k) (is_from p.rows k) (rows_used p.rowcount)
      (λ j q. ap (λ (r : Row). eqb r.publisher k) (row_same j (omega arith) (omega arith))))

  pub unused_refusal : plan_refusal (unused_zero p) ≡ plan_refusal p
  unfolding plan_refusal unused_zero
  unused_refusal =
      λ i. first_broken 3 (profile_right p.profile ∷ revision_right p ∷ times_right p.times ∷ nodes_same i ∷ rows_same i ∷ published_same i ∷ [])
