-- From event to event, by the laws of the run over a list.
use Prim.Native.Nat.{suc}
use Rattle.std.proofs.Common.{rules, ◌≡◌, ℕ, ◌≤◌, ◌<◌, length}
use mathlib.Core.Path.{refl, sym, ◌∙◌, ap}
use native.Mathlib.Numerals.{add-one}
use native.Mathlib.Omega.{arith}
use lib.ListN.{get_or, set, drop, length-set}
use borrow.Author.Tests.{le-ltb}
use Rattle.set_record.specs.Record.{record_of}
use Rattle.machine_master.specs.declared.Master.{Master}
use Rattle.machine_events.specs.declared.ReplyRecord.{ReplyRecord}
use Rattle.machine_batch.specs.Batch.{stepped, master_after, replies_to}
use Rattle.machine_batch.proofs.Loop.{no_record, replies_from, from_start, next_master, next_replies, last_master, last_replies}
use Rattle.packed_master.specs.States.{master_of}
use Rattle.cxpi_batch.specs.BatchCalls.{standing, left_under}
use Rattle.cxpi_batch.proofs.BatchStates.{standing_kept, left_on}
use Rattle.cxpi_batch.proofs.cxpi_master_batch.Goals as goal

pub loop-i-init : goal.loop-i-init
loop-i-init c =
    let p = record_of c.args.plan.now in
    let es = c.args.events.now in
    let rs = c.args.replies.now in
    let e = c.opened-number.ensures in (
      refl,
      e.0 ∙ ap (standing p) (sym e.2),
      e.0,
      e.1 ∙ ap (left_under c.opened-number.result c.args.state.now) (sym e.2),
      ap (λ (m : Master). master_after p m es) e.2,
      ap (λ (m : Master). replies_from p m es 0 rs) e.2 ∙ from_start p (master_of c.args.state.now) es rs,
    )

pub loop-i-preserved : goal.loop-i-preserved
loop-i-preserved c =
    let p = record_of c.args.plan.now in
    let es = c.args.events.now in
    let number = c.opened-number.result in
    let i = c.loop-i.i in
    let m = master_of c.loop-i.state in
    let rs = c.loop-i.replies in
    let next = stepped p m (get_or es i no_record) in
    let t = c.loop-i.invariant in
    let l : i < length es = omega arith in
    let e = c.reply_of-reply.ensures in (
      length-set rs i c.reply_of-reply.result ∙ t.0,
      t.1 ∙ sym (standing_kept p m (get_or es i no_record)) ∙ ap (standing p) (sym e.2),
      t.2,
      e.1 ∙ left_on number c.loop-i.state c.args.state.now m t.3 next.master ∙ ap (left_under number c.args.state.now) (sym e.2),
      rw (add-one i) (ap (λ (n : Master). master_after p n (drop (suc i) es)) e.2 ∙ sym (next_master p m es i l) ∙ t.4),
      rw (add-one i) (
          ap (λ (n : Master). replies_from p n (drop (suc i) es) (suc i) (set rs i c.reply_of-reply.result)) e.2
          ∙ ap (λ (y : ReplyRecord). replies_from p next.master (drop (suc i) es) (suc i) (set rs i y)) e.0
          ∙ sym (next_replies p m es i rs l) ∙ t.5
          ),
    )

pub returns : goal.returns
returns c =
    let p = record_of c.args.plan.now in
    let s = c.args.state.now in
    let es = c.args.events.now in
    let number = c.opened-number.result in
    let i = c.loop-i.i in
    let m = master_of c.loop-i.state in
    let rs = c.loop-i.replies in
    let t = c.loop-i.invariant in
    let over : i ≡ length es = omega arith in
    let long : length es ≤ length c.args.replies.now = search rules in
    let after : m ≡ master_after p (master_of s) es = sym (last_master p m es) ∙ ap (λ (k : ℕ). master_after p m (drop k es)) (sym over) ∙ t.4 in
    let said : rs ≡ replies_to p (master_of s) es c.args.replies.now = sym (last_replies p m es i rs) ∙ ap (λ (k : ℕ). replies_from p m (drop k es) i rs) (sym over) ∙ t.5 in
    rw (le-ltb (length c.args.replies.now) (length es) long) (
      refl,
      t.3 ∙ ap (left_under number s) after ∙ ap (λ (k : ℕ). left_under k s (master_after p (master_of s) es)) t.2,
      said,
    )
