-- By the plan, then by the state.
use Rattle.std.proofs.Common.{◌≡◌, ℕ, ◌<◌, List, Bool, true, false, sym, ap, ◌∙◌, rules}
use Rattle.base_bytes.specs.Bytes.{byte}
use Rattle.base_refusals.specs.declared.Refusal.{Refusal}
use Rattle.base_refusals.specs.Numbers.{number, number_of, unless}
use Rattle.base_refusals.proofs.Numbers.{not_zero}
use Rattle.set_plan.specs.declared.Plan.{Plan}
use Rattle.set_plan.specs.Profile.{sleeps}
use Rattle.set_plan.specs.Rules.{plan_refusal}
use Rattle.set_record.specs.Record.{record_of}
use Rattle.machine_master.specs.Range.{in_range}
use Rattle.packed_master.specs.States.{master_of}
use Rattle.cxpi_batch.specs.BatchCalls.{standing, left_under}
use Rattle.cxpi_batch.proofs.BatchStates.{plan_stands, state_stands, none_stands}
use Rattle.cxpi_batch.proofs.judge.Goals as goal

judged : (p : Plan) (s : List ℕ) (right : Bool) → plan_refusal p ≡ 0 → right ≡ in_range (sleeps p) p.nodecount p.times (master_of s) → ((o : ℕ) → byte s o < 256)
    → (number_of (unless Refusal.NoState right) ≡ standing p (master_of s)) × (s ≡ left_under (number_of (unless Refusal.NoState right)) s (master_of s))
judged p s true none e bytes = none_stands p s none (sym e) bytes
judged p s false none e bytes = state_stands p s none (sym e)

pub returns-in_err-judge : goal.returns-in_err-judge
returns-in_err-judge c =
    let r = c.in_err-judge.field-0.0 in
    let p = record_of c.args.plan.now in
    let is : number r ≡ plan_refusal p = sym (ap number_of c.in_err-judge.was) ∙ c.judge.ensures in
    let e : number_of c.from_residual.result ≡ number r = search rules in
    rw e (plan_stands p c.args.state.now (number r) is (not_zero r))

pub returns : goal.returns
returns c =
    let p = record_of c.args.plan.now in
    let s = c.args.state.now in
    let none : plan_refusal p ≡ 0 = search rules in
    let e : c.in_range.result ≡ in_range (sleeps p) p.nodecount p.times (master_of s) = search rules in
    rw c.unless.ensures (judged p s c.in_range.result none e (λ o. search rules))
