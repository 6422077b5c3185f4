-- Laws of recorded moves that come in pieces, and the loop over records.
use Rattle.std.proofs.Common.{◌≡◌, ℕ, ◌+◌, ◌*◌, ◌/◌, ◌%◌, ◌≤◌, true, false, List, [], ◌∷◌, ◌++◌, length, sym, refl, ap, ◌∙◌, ap₂, append_assoc, append-nil, add-one, arith, length-append}
use Rattle.base_lists.specs.Bounded.{tab}
use Rattle.base_lists.proofs.Choices.{by_test}
use Rattle.base_lists.proofs.Tables.{length-tab}
use Rattle.set_plan.specs.declared.Plan.{Plan}
use Rattle.bus.specs.declared.Move.{Move}
use Rattle.bus.specs.declared.Moved.{Moved}
use Rattle.bus.specs.declared.World.{World}
use Rattle.bus.specs.Moves.{world_act}
use Rattle.base_text.specs.declared.Writer.{Writer}
use Rattle.base_text.specs.Text.{wrote}
use Rattle.base_text.proofs.Appends.{wrote_none, wrote_append}
use Rattle.drill_text.specs.Lines.{moved_line, bad_line, next_line}
use Rattle.drill_text.proofs.Lines.{moved_short, bad_short, Printed, printed_bad, printed_move}
use Rattle.bus_moves.specs.Decoding.{move_of, is_move}
use Rattle.bus_moves.specs.Records.{record_at, record_count, records}
use Rattle.bus_moves.proofs.ByRecord.{tab_last, records-append}
use Rattle.drill_replay.specs.declared.Replay.{Replay}
use Rattle.drill_replay.specs.Replay.{record_moved, world_after, record_text, after, after_all, all_printed, replayed, printed}

-- records in two parts

after-append : (r : Replay) (a b : List (List ℕ)) → after_all r (a ++ b) ≡ after_all (after_all r a) b
unfolding after_all
after-append r [] b = refl
after-append r (s ∷ a) b = after-append (after r s) a b

printed-append : (r : Replay) (a b : List (List ℕ)) → all_printed r (a ++ b) ≡ all_printed r a ++ all_printed (after_all r a) b
unfolding after_all all_printed
printed-append r [] b = refl
printed-append r (s ∷ a) b =
    let text = record_text r.plan r.world (next_line r.count) s in
    ap (λ l. text ++ l) (printed-append (after r s) a b) ∙ sym (append_assoc text (all_printed (after r s) a) (all_printed (after_all (after r s) a) b))

-- a first piece of whole records, and another behind it: as the two in one
module _ (r : Replay) (a b : List ℕ) (whole : length a % 16 ≡ 0) where
  parts : records (a ++ b) ≡ records a ++ records b
  parts = records-append (length a / 16) a b (omega arith)

  pub replayed_pieces : replayed r (a ++ b) ≡ replayed (replayed r a) b
  replayed_pieces = ap (after_all r) parts ∙ after-append r (records a) (records b)

  pub printed_pieces : printed r (a ++ b) ≡ printed r a ++ printed (replayed r a) b
  printed_pieces = ap (all_printed r) parts ∙ printed-append r (records a) (records b)

-- 80 bytes of text for each record are room enough

record_short : (plan : Plan) (w : World) (number : ℕ) (s : List ℕ) → length (record_text plan w number s) ≤ 80
unfolding record_text
record_short plan w number s =
    by_test (λ text. length text ≤ 80) (is_move s) {x = moved_line plan number (record_moved plan w s)} {y = bad_line number}
    (λ e. moved_short plan number (record_moved plan w s)) (λ e. bad_short number)

all_short : (r : Replay) (l : List (List ℕ)) → length (all_printed r l) ≤ 80 * length l
unfolding all_printed
all_short r [] = omega arith
all_short r (s ∷ l) =
    let text = record_text r.plan r.world (next_line r.count) s in
    omega (arith, length-append text (all_printed (after r s) l), record_short r.plan r.world (next_line r.count) s, all_short (after r s) l)

pub room_enough : (r : Replay) (input : List ℕ) → length (printed r input) ≤ 80 * record_count input
unfolding records
room_enough r input = omega (arith, all_short r (records input), length-tab (record_count input) (record_at input))

-- a record printed
abbrev pub RecordPrinted : Plan → World → ℕ → List ℕ → World → Writer → Writer → Type 0
RecordPrinted plan w number s = Printed (world_after plan w s) (record_text plan w number s)

module _ (plan : Plan) (w : World) (number : ℕ) (s : List ℕ) {w' : World} {out out' x : Writer} where
  pub record_bad : is_move s ≡ false → out' ≡ x → w' ≡ w → x ≡ wrote (bad_line number) out → RecordPrinted plan w number s w' out out'
  unfolding world_after record_text
  record_bad e = printed_bad w number (rw e) (rw e)

  pub record_move : {m : Move} {o : Moved} → is_move s ≡ true → m ≡ move_of s → o ≡ world_act plan w m → out' ≡ x → w' ≡ o.world
      → x ≡ wrote (moved_line plan number o) out → RecordPrinted plan w number s w' out out'
  unfolding record_moved world_after record_text
  record_move e b c = printed_move w number plan (move_of s) (rw e) (rw e) (c ∙ ap (world_act plan w) b)

-- the loop over records: none yet, and one more
module _ (r : Replay) (input : List ℕ) where
  pub none-replayed : r ≡ after_all r (tab 0 (record_at input))
  unfolding after_all tab
  none-replayed = refl

  pub none-printed : (out : Writer) → out ≡ wrote (all_printed r (tab 0 (record_at input))) out
  unfolding all_printed tab
  none-printed out = sym (wrote_none out)

  module _ (k : ℕ) (now : Replay) {number : ℕ} {s : List ℕ} {w : World} {out x : Writer}
      (a : now ≡ after_all r (tab k (record_at input))) (b : number ≡ next_line now.count) (c : s ≡ record_at input k)
      (t : RecordPrinted now.plan now.world number s w out x) where
    one_more : tab (k + 1) (record_at input) ≡ tab k (record_at input) ++ (record_at input k ∷ [])
    one_more = rw add-one (tab_last k (record_at input))

    pub more_replayed : record { plan = now.plan; world = w; count = number } ≡ after_all r (tab (k + 1) (record_at input))
    unfolding after_all
    more_replayed =
        ap₂ (λ x y. record { plan = now.plan; world = x; count = y }) (t.world ∙ ap (world_after now.plan now.world) c) b
        ∙ ap (λ x. after x (record_at input k)) a ∙ sym (after-append r (tab k (record_at input)) (record_at input k ∷ [])) ∙ ap (after_all r) (sym one_more)

    pub more_printed : (out₀ : Writer) → out ≡ wrote (all_printed r (tab k (record_at input))) out₀ → x ≡ wrote (all_printed r (tab (k + 1) (record_at input))) out₀
    unfolding all_printed
    more_printed out₀ v =
        let text = record_text now.plan now.world number s in
        let e : all_printed r (tab k (record_at input)) ++ text ≡ all_printed r (tab (k + 1) (record_at input)) =
        ap (λ x. all_printed r (tab k (record_at input)) ++ x)
        (ap₂ (record_text now.plan now.world) b c ∙ ap (λ x. record_text x.plan x.world (next_line x.count) (record_at input k)) a
        ∙ sym (append-nil (record_text (after_all r (tab k (record_at input))).plan (after_all r (tab k (record_at input))).world (next_line (after_all r (tab k (record_at input))).count) (record_at input k))))
        ∙ sym (printed-append r (tab k (record_at input)) (record_at input k ∷ [])) ∙ ap (all_printed r) (sym one_more) in
        t.written ∙ ap (wrote text) v ∙ sym (wrote_append (all_printed r (tab k (record_at input))) text out₀) ∙ ap (λ l. wrote l out₀) e
