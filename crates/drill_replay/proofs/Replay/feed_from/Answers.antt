-- By the records so far.
use Rattle.std.proofs.Common.{◌≡◌, ℕ, ◌+◌, ◌%◌, sym, refl, ap, ◌∙◌, arith}
use Rattle.base_lists.specs.Bounded.{tab}
use Rattle.base_text.specs.Text.{wrote}
use Rattle.bus_moves.specs.Records.{record_at, record_count, records}
use Rattle.drill_replay.specs.Replay.{after_all, all_printed}
use Rattle.drill_replay.proofs.Replaying.{RecordPrinted, record_bad, record_move, none-replayed, none-printed, more_replayed, more_printed}
use Rattle.drill_replay.proofs.Replay.feed_from.Invariants.{replay}
use Rattle.drill_replay.proofs.Replay.feed_from.Goals as goal
use Rattle.drill_replay.proofs.Replay.feed_from.Goals.{then-is_move, else-is_move}

pub loop-k-init : goal.loop-k-init
loop-k-init c = record { state = none-replayed _ _; text = none-printed _ _ _ }

pub loop-k-preserved : goal.loop-k-preserved
loop-k-preserved c =
    let at = c.loop-k in
    let a = c.args in
    let moves = sym c.is_move.ensures in
    let now = replay a.self.plan at.world at.count in
    let bytes = c.record_at-bytes.result.now in
    let line : RecordPrinted now.plan now.world ((at.count + 1) % 18446744073709551616) bytes c.if-is_move.world at.out c.if-is_move.out = elim c.if-is_move.branch [
      | then-is_move w ↦ record_move now.plan now.world _ bytes (moves ∙ w.if-is_move.true) w.move_of.ensures w.act-moved.ensures w.out-is w.world-is w.append_move.ensures
      | else-is_move w ↦ record_bad now.plan now.world _ bytes (moves ∙ w.if-is_move.false) w.out-is w.world-is w.append_bad.ensures
    ] in record {
      state = more_replayed a.self a.input.now at.k now at.invariant.state refl c.record_at-bytes.ensures line;
      text = more_printed a.self a.input.now at.k now at.invariant.state refl c.record_at-bytes.ensures line _ at.invariant.text;
    }

pub returns : goal.returns
unfolding records
returns c =
    let at = c.loop-k in
    let a = c.args in
    let e : at.k ≡ record_count a.input.now = omega arith in record {
      state = at.invariant.state ∙ ap (λ (n : ℕ). after_all a.self (tab n (record_at a.input.now))) e;
      text = at.invariant.text ∙ ap (λ (n : ℕ). wrote (all_printed a.self (tab n (record_at a.input.now))) a.out.now) e;
    }
