-- The first marks are those of the nodes. Assumes nothing.
use Rattle.std.proofs.Common.{ℕ, List, Bool, arith, rules, tests, ◌≡◌, ◌<◌, ◌∙◌, true, false, sym, ap, length, take, get_or}
use Rattle.std.specs.Bool.{MatchBool}
use Rattle.std.specs.List.{AllWithin, HoldsAt}
use Rattle.std.proofs.lemmas.Iterator.{cases_from_all, YieldsList-from_slice}
use Rattle.std.proofs.lemmas.List.{get_or-take, length-take}
use Rattle.base_lists.specs.Bounded.{all_to, tab}
use Rattle.base_lists.proofs.AllAny.{all_ext, all_intro, all_false}
use Rattle.base_lists.proofs.Tables.{length-tab, get_or-tab}
use Rattle.set_plan.specs.Record.{rows_used}
use Rattle.set_plan.specs.Rules.{publishes, all_publish}
use Rattle.set_plan.proofs.InUse.{used_publishes}
use Rattle.set_plan.proofs.rules.all_publish.Goals as goal

-- whether each of the first n marks is set
front : (f : ℕ → Bool) (marks : List Bool) (n : ℕ) (r : Bool) → marks ≡ tab 256 f → n < 256
    → MatchBool r (AllWithin (λ x. x ≡ true) (take n marks) 0 (length (take n marks)))
    ((k : ℕ) × (k < length (take n marks)) × HoldsAt (λ x. x ≡ false) (take n marks) k)
    → r ≡ all_to f n
front f marks n r e l = go r
  where
    size : length (take n marks) ≡ n
    size = omega (arith, length-take n marks, ap length e, length-tab 256 f)

    at : (i : ℕ) → i < n → get_or (take n marks) i false ≡ f i
    at i h = get_or-take n marks i false h ∙ ap (λ (t : List Bool). get_or t i false) e ∙ get_or-tab 256 f i false (omega arith)

    go : (r : Bool) → MatchBool r (AllWithin (λ x. x ≡ true) (take n marks) 0 (length (take n marks)))
        ((k : ℕ) × (k < length (take n marks)) × HoldsAt (λ x. x ≡ false) (take n marks) k)
        → r ≡ all_to f n
    go true h = sym (all_intro f n (λ i q. sym (at i q) ∙ h i false (omega arith) (omega (arith, size))))
    go false (k, q, h) = let w : k < n = omega (arith, size) in sym (all_false f n k w (sym (at k w) ∙ h false))

pub returns : goal.returns
unfolding all_publish
returns c =
    let p = c.args.p in
    let used = c.rows_in_use.result.now in
    let kept = cases_from_all _ _ _ (λ x. x ≡ true) (λ x. x ≡ false) c.all.ensures.ran
    (YieldsList-from_slice (take c.from.result c.publishers-seen.result) (cc))
    (λ x q k. search (rules, tests)) (λ x q k. search (rules, tests)) in
    front (publishes used (length used)) c.publishers-seen.result c.from.result c.all.result c.publishers-seen.ensures (omega arith) kept
    ∙ ap (λ n. all_to (publishes used n) c.from.result) c.rows_in_use.ensures.1
    ∙ ap (all_to (publishes used (rows_used p.rowcount))) c.from.ensures
    ∙ all_ext (publishes used (rows_used p.rowcount)) (publishes p.rows (rows_used p.rowcount)) p.nodecount
    (λ k h. used_publishes p.rows used (rows_used p.rowcount) c.rows_in_use.ensures.0 k)
