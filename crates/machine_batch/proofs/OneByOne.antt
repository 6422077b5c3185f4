-- A call is its events one by one: `first`, whether the event is refused or not; `one`; `in_two`, a list cut in two; `past-refused`; `standing`, a number that
-- plan or state give every event.
use Prim.Native.Nat.{ℕ, ◌≤◌, zero-le}
use mathlib.Core.Path.{◌≡◌, refl, sym, ◌∙◌, ap}
use mathlib.Core.Bool.{false}
use mathlib.Core.List.{List, [], ◌∷◌, ◌++◌}
use lib.ListN.{length, drop, replicate, length-append}
use native.Mathlib.Omega.{arith}
use borrow.Author.Tests.{le-ltb, ne_eqb}
use Rattle.set_plan.specs.declared.Plan.{Plan}
use Rattle.set_plan.specs.Profile.{sleeps}
use Rattle.set_plan.specs.Rules.{plan_refusal}
use Rattle.machine_master.specs.declared.Master.{Master}
use Rattle.machine_master.specs.declared.Event.{Event}
use Rattle.machine_master.specs.Changes.{refuse}
use Rattle.machine_master.specs.Range.{in_range}
use Rattle.machine_master.specs.Step.{master_step}
use Rattle.machine_master.proofs.Refusals.{refused_plain}
use Rattle.machine_events.specs.declared.EventRecord.{EventRecord}
use Rattle.machine_events.specs.declared.ReplyRecord.{ReplyRecord}
use Rattle.machine_events.specs.Events.{event_of}
use Rattle.machine_events.specs.Replies.{reply_record}
use Rattle.machine_batch.specs.Batch.{Batch}
use Rattle.machine_batch.specs.Batch.{stepped, master_after, replies_to, batch_of, batch_replies}

abbrev done : Master → Batch
done m = record { refusal = 0; master = m }

module _ (p : Plan) where
  -- where there are places enough
  in_room : (m : Master) (es : List EventRecord) (rs : List ReplyRecord) → length es ≤ length rs → (batch_of p m es rs ≡ done (master_after p m es)) × (batch_replies p m es rs ≡ replies_to p m es rs)
  in_room m es rs l = (rw (le-ltb (length rs) (length es) l), rw (le-ltb (length rs) (length es) l))

  module _ (m : Master) (e : EventRecord) (r : ReplyRecord) (es : List EventRecord) (rs : List ReplyRecord) (enough : length es ≤ length rs) where
    -- the first event is the master's step, and the others run from what it leaves, "a refused event included"
    pub first :
        (batch_of p m (e ∷ es) (r ∷ rs) ≡ batch_of p (master_step p m (event_of e)).master es rs)
        × (batch_replies p m (e ∷ es) (r ∷ rs) ≡ reply_record (master_step p m (event_of e)) ∷ batch_replies p (master_step p m (event_of e)).master es rs)
    unfolding stepped master_after replies_to
    first =
        let all = in_room m (e ∷ es) (r ∷ rs) (omega (arith, enough)) in
        let rest = in_room (master_step p m (event_of e)).master es rs enough in (
          all.0 ∙ sym rest.0,
          all.1 ∙ ap (λ (l : List ReplyRecord). reply_record (master_step p m (event_of e)) ∷ l) (sym rest.1),
        )

  -- "a list of one" is the master's step
  pub one :
      (m : Master) (e : EventRecord) (r : ReplyRecord) (rs : List ReplyRecord)
      → (batch_of p m (e ∷ []) (r ∷ rs) ≡ done (master_step p m (event_of e)).master) × (batch_replies p m (e ∷ []) (r ∷ rs) ≡ reply_record (master_step p m (event_of e)) ∷ rs)
  unfolding master_after replies_to
  one m e r rs =
      let step = first m e r [] rs zero-le in
      let rest = in_room (master_step p m (event_of e)).master [] rs zero-le in
      (step.0 ∙ rest.0, step.1 ∙ ap (λ (l : List ReplyRecord). reply_record (master_step p m (event_of e)) ∷ l) rest.1)

  -- an event whose refusal leaves the master as it was might as well not have come
  pub past-refused :
      (m : Master) (e : EventRecord) (r : ReplyRecord) (es : List EventRecord) (rs : List ReplyRecord) → length es ≤ length rs
      → ((master_step p m (event_of e)).refusal ≡ 0 → ⊥) → ((master_step p m (event_of e)).refusal ≡ 13 → ⊥) → ((master_step p m (event_of e)).refusal ≡ 14 → ⊥)
      → (batch_of p m (e ∷ es) (r ∷ rs) ≡ batch_of p m es rs) × (batch_replies p m (e ∷ es) (r ∷ rs) ≡ reply_record (master_step p m (event_of e)) ∷ batch_replies p m es rs)
  past-refused m e r es rs enough n n₁₃ n₁₄ =
      let same = (refused_plain m p (event_of e)).same n n₁₃ n₁₄ in
      let rest = first m e r es rs enough in (
        rest.0 ∙ ap (λ (k : Master). batch_of p k es rs) same,
        rest.1 ∙ ap (λ (k : Master). reply_record (master_step p m (event_of e)) ∷ batch_replies p k es rs) same,
      )

  master_append : (m : Master) (es fs : List EventRecord) → master_after p m (es ++ fs) ≡ master_after p (master_after p m es) fs
  unfolding master_after
  master_append m [] fs = refl
  master_append m (e ∷ es) fs = master_append (stepped p m e).master es fs

  replies_append : (m : Master) (es fs : List EventRecord) (rs qs : List ReplyRecord) → length rs ≡ length es
      → replies_to p m (es ++ fs) (rs ++ qs) ≡ replies_to p m es rs ++ replies_to p (master_after p m es) fs qs
  unfolding master_after replies_to
  replies_append m [] fs [] qs e = refl
  replies_append m [] fs (r ∷ rs) qs e = absurd (omega (arith, e))
  replies_append m (e ∷ es) fs [] qs h = absurd (omega (arith, h))
  replies_append m (e ∷ es) fs (r ∷ rs) qs h = ap (λ (l : List ReplyRecord). (stepped p m e).reply ∷ l) (replies_append (stepped p m e).master es fs rs qs (omega (arith, h)))

  -- two calls on lists one after the other are one call on their concatenation
  pub in_two :
      (m : Master) (es fs : List EventRecord) (rs qs : List ReplyRecord) → length rs ≡ length es → length fs ≤ length qs
      → (batch_of p m (es ++ fs) (rs ++ qs) ≡ batch_of p (batch_of p m es rs).master fs qs)
      × (batch_replies p m (es ++ fs) (rs ++ qs) ≡ batch_replies p m es rs ++ batch_replies p (batch_of p m es rs).master fs qs)
  in_two m es fs rs qs h enough =
      let all = in_room m (es ++ fs) (rs ++ qs) (omega (arith, length-append es fs, length-append rs qs, h, enough)) in
      let front = in_room m es rs (omega (arith, h)) in
      let rest = in_room (master_after p m es) fs qs enough in (
        rw (all.0, front.0, rest.0) (ap done (master_append m es fs)),
        rw (all.1, front.0, front.1, rest.1) (replies_append m es fs rs qs h),
      )

  -- where plan or state give every event one number, that stands in each reply and nothing else happens
  module _ (m : Master) (n : ℕ) (refused : (e : Event) → master_step p m e ≡ refuse m n) where
    all_refused : (es : List EventRecord) (rs : List ReplyRecord) → length es ≤ length rs
        → (master_after p m es ≡ m) × (replies_to p m es rs ≡ replicate (length es) (reply_record (refuse m n)) ++ drop (length es) rs)
    unfolding stepped master_after replies_to
    all_refused [] rs l = (refl, refl)
    all_refused (e ∷ es) [] l = absurd (omega (arith, l))
    all_refused (e ∷ es) (r ∷ rs) l =
        let rest = all_refused es rs (omega (arith, l)) in (
          rw (refused (event_of e)) rest.0,
          rw (refused (event_of e)) (ap (λ (k : List ReplyRecord). reply_record (refuse m n) ∷ k) rest.1),
        )

    pub standing : (es : List EventRecord) (rs : List ReplyRecord) → length es ≤ length rs
        → (batch_of p m es rs ≡ done m) × (batch_replies p m es rs ≡ replicate (length es) (reply_record (refuse m n)) ++ drop (length es) rs)
    standing es rs l = ((in_room m es rs l).0 ∙ ap done (all_refused es rs l).0, (in_room m es rs l).1 ∙ (all_refused es rs l).1)

  -- "A plan that is refused gives its number in every answer"
  pub plan_refuses : (m : Master) → (plan_refusal p ≡ 0 → ⊥) → (e : Event) → master_step p m e ≡ refuse m (plan_refusal p)
  plan_refuses m n e = rw (ne_eqb (plan_refusal p) 0 n)

  -- and a state out of range 11
  pub state_refuses : (m : Master) → plan_refusal p ≡ 0 → in_range (sleeps p) p.nodecount p.times m ≡ false → (e : Event) → master_step p m e ≡ refuse m 11
  state_refuses m z o e = rw (z, o)
