-- A turn is a step; at the end no event is left.
use Prim.Native.Nat.{suc}
use Rattle.std.proofs.Common.{rules, ◌≡◌, ◌<◌, ◌≤◌, ℕ, length}
use mathlib.Core.Path.{refl, sym, ◌∙◌, ap}
use native.Mathlib.Numerals.{add-one}
use native.Mathlib.Omega.{arith}
use lib.ListN.{get_or, set, drop, length-set}
use borrow.Author.Tests.{le-ltb}
use Rattle.machine_batch.specs.declared.Stepped.{Stepped}
use Rattle.machine_batch.specs.Batch.{stepped_by, stepped, master_after, replies_to}
use Rattle.machine_batch.proofs.Loop.{no_record, replies_from, from_start, next_master, next_replies, last_master, last_replies}
use Rattle.machine_batch.proofs.run.Goals as goal

pub loop-i-init : goal.loop-i-init
loop-i-init c = (refl, refl, refl)

pub loop-i-preserved : goal.loop-i-preserved
unfolding stepped_by stepped
loop-i-preserved c =
    let p = c.args.plan in
    let es = c.args.events.now in
    let i = c.loop-i.i in
    let m = c.loop-i.current in
    let rs = c.loop-i.replies in
    let l : i < length es = omega arith in
    let t = c.loop-i.invariant in
    let s : c.step_record-s.result ≡ stepped p m (get_or es i no_record) = rw (c.number_of-refusal.ensures ∙ c.judge.ensures) at c.step_record-s.ensures in (
      length-set rs i c.step_record-s.result.reply ∙ t.0,
      rw (add-one i) (t.1 ∙ next_master p m es i l ∙ ap (λ (x : Stepped). master_after p x.master (drop (suc i) es)) (sym s)),
      rw (add-one i) (t.2 ∙ next_replies p m es i rs l ∙ ap (λ (x : Stepped). replies_from p x.master (drop (suc i) es) (suc i) (set rs i x.reply)) (sym s)),
    )

pub returns : goal.returns
returns c =
    let p = c.args.plan in
    let es = c.args.events.now in
    let i = c.loop-i.i in
    let m = c.loop-i.current in
    let rs = c.loop-i.replies in
    let t = c.loop-i.invariant in
    let over : i ≡ length es = omega arith in
    let long : length es ≤ length c.args.replies.now = search rules in
    let after : m ≡ master_after p c.args.master es = sym (t.1 ∙ ap (λ (k : ℕ). master_after p m (drop k es)) over ∙ last_master p m es) in
    let said : rs ≡ replies_to p c.args.master es c.args.replies.now
    = sym (sym (from_start p c.args.master es c.args.replies.now) ∙ t.2 ∙ ap (λ (k : ℕ). replies_from p m (drop k es) i rs) over ∙ last_replies p m es i rs) in
    rw (le-ltb (length c.args.replies.now) (length es) long) (rw after refl, said)
