-- None of the places passed is due; or the places passed have what the definition says. Assumes nothing.
use Rattle.std.proofs.Common.{◌≡◌, false, ◌||◌, sym, ap, ◌∙◌, arith, rules}
use Rattle.base_lists.specs.Bounded.{any_to}
use Rattle.base_lists.proofs.AllAny.{any_none, any_next, any_at}
use Rattle.base_lists.proofs.Tables.{tab_of}
use Rattle.machine_master.specs.Ticks.{all_aged_out}
use Rattle.machine_master.proofs.causes.all_aged_out.Invariants.{due_at}
use Rattle.machine_master.proofs.causes.all_aged_out.Goals as goal

pub loop-hold-init : goal.loop-hold-init
loop-hold-init c = sym (any_none _)

pub loop-hold-preserved : goal.loop-hold-preserved
loop-hold-preserved c =
    let l = c.loop-hold in
    let a = c.args in
    let f = due_at a.normal a.window a.holds in
    ap (λ d. d || f l.hold-index) l.invariant ∙ sym (any_next f l.hold-index)

pub returns-then-not-due : goal.returns-then-not-due
unfolding all_aged_out
returns-then-not-due c =
    let l = c.loop-hold in
    let a = c.args in
    let e : l.hold-index ≡ 16 = omega arith in
    let none : any_to (due_at a.normal a.window a.holds) 16 ≡ false = ap (any_to (due_at a.normal a.window a.holds)) (sym e) ∙ sym l.invariant ∙ c.if-not-due.true in
    tab_of 0 16 _ _ (search rules) (λ k p. rw (any_at _ 16 none k p))

pub returns : goal.returns
unfolding all_aged_out
returns c = tab_of 0 16 _ _ c.loop-k.invariant.0 (λ k p. c.loop-k.invariant.1 k (omega arith))
