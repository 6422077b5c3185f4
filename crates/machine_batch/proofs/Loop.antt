-- The run over a list of events as the loop does it: what one turn does to the master and to the replies, and what they are at the end.
-- Assumes nothing.
use mathlib.Core.Path.{◌≡◌, refl, ◌∙◌, ap}
use Prim.Native.Nat.{ℕ, suc, ◌<◌}
use mathlib.Core.List.{List, [], ◌∷◌}
use lib.ListN.{length, get_or, set, drop}
use lib.Seq.{drop-cons, drop-length}
use Rattle.set_plan.specs.declared.Plan.{Plan}
use Rattle.machine_master.specs.declared.Master.{Master}
use Rattle.machine_events.specs.declared.EventRecord.{EventRecord}
use Rattle.machine_events.specs.declared.ReplyRecord.{ReplyRecord}
use Rattle.machine_batch.specs.Batch.{stepped, master_after, replies_to}

-- what stands for the content past the end of a list
abbrev pub no_record : EventRecord
no_record = record { kind = 0; reqid = 0; result = 0; length = 0; count = 0; permission = 0; wake = 0; flag = 0 }

abbrev pub no_reply : ReplyRecord
no_reply = record { refusal = 0; node = 0; command = 0; lost = 0 }

-- the replies with the reply to the next event stored at i
unfoldable pub replies_from : Plan → Master → List EventRecord → ℕ → List ReplyRecord → List ReplyRecord
replies_from p m [] i rs = rs
replies_from p m (e ∷ es) i rs = replies_from p (stepped p m e).master es (suc i) (set rs i (stepped p m e).reply)

module _ (p : Plan) where
  none : (m : Master) (es : List EventRecord) (i : ℕ) → replies_from p m es i [] ≡ []
  unfolding replies_from
  none m [] i = refl
  none m (e ∷ es) i = none (stepped p m e).master es (suc i)

  shifted : (m : Master) (es : List EventRecord) (i : ℕ) (r : ReplyRecord) (rs : List ReplyRecord) → replies_from p m es (suc i) (r ∷ rs) ≡ r ∷ replies_from p m es i rs
  unfolding replies_from
  shifted m [] i r rs = refl
  shifted m (e ∷ es) i r rs = shifted (stepped p m e).master es (suc i) r (set rs i (stepped p m e).reply)

  -- from the first place on they are the replies of the promise
  pub from_start : (m : Master) (es : List EventRecord) (rs : List ReplyRecord) → replies_from p m es 0 rs ≡ replies_to p m es rs
  unfolding replies_from replies_to
  from_start m [] rs = refl
  from_start m (e ∷ es) [] = none (stepped p m e).master es 1
  from_start m (e ∷ es) (r ∷ rs) =
      shifted (stepped p m e).master es 0 (stepped p m e).reply rs ∙ ap (λ (l : List ReplyRecord). (stepped p m e).reply ∷ l) (from_start (stepped p m e).master es rs)

  module _ (m : Master) (es : List EventRecord) where
    -- a turn at i
    pub next_master : (i : ℕ) → i < length es → master_after p m (drop i es) ≡ master_after p (stepped p m (get_or es i no_record)).master (drop (suc i) es)
    unfolding master_after
    next_master i l = ap (master_after p m) (drop-cons es i no_record l)

    pub next_replies : (i : ℕ) (rs : List ReplyRecord) → i < length es
        → replies_from p m (drop i es) i rs ≡ replies_from p (stepped p m (get_or es i no_record)).master (drop (suc i) es) (suc i) (set rs i (stepped p m (get_or es i no_record)).reply)
    unfolding replies_from
    next_replies i rs l = ap (λ (rest : List EventRecord). replies_from p m rest i rs) (drop-cons es i no_record l)

    -- no event is left
    pub last_master : master_after p m (drop (length es) es) ≡ m
    unfolding master_after
    last_master = ap (master_after p m) (drop-length es)

    pub last_replies : (i : ℕ) (rs : List ReplyRecord) → replies_from p m (drop (length es) es) i rs ≡ rs
    unfolding replies_from
    last_replies i rs = ap (λ (rest : List EventRecord). replies_from p m rest i rs) (drop-length es)
