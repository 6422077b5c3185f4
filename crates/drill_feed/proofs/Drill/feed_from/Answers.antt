-- By the bytes so far.
use Rattle.std.proofs.Common.{refl, ◌+◌, ◌%◌}
use Rattle.drill_feed.proofs.Feeding.{LinePrinted, line_bad, line_move, fed-nothing, printed-nothing, kept_state, kept_text, ended_state, ended_text}
use Rattle.drill_feed.proofs.Drill.feed_from.Invariants.{drill}
use Rattle.drill_feed.proofs.Drill.feed_from.Goals as goal
use Rattle.drill_feed.proofs.Drill.feed_from.Goals.{in-None, in-Some}

pub loop-byte-init : goal.loop-byte-init
loop-byte-init c = record { state = fed-nothing _; text = printed-nothing _ _ }

pub loop-byte-preserved-then-byte-ne10 : goal.loop-byte-preserved-then-byte-ne10
loop-byte-preserved-then-byte-ne10 c =
    let b = c.loop-byte in
    let a = c.args in
    let d = drill a.self.plan b.world b.lines b.held in record {
      state = kept_state a.self a.input.now b.byte-index c.loop-byte-test.true d b.invariant.state c.if-byte-ne10.true c.hold.ensures;
      text = kept_text a.self a.input.now b.byte-index c.loop-byte-test.true d b.invariant.state c.if-byte-ne10.true _ b.invariant.text;
    }

pub loop-byte-preserved : goal.loop-byte-preserved
loop-byte-preserved c =
    let b = c.loop-byte in
    let a = c.args in
    let d = drill a.self.plan b.world b.lines b.held in
    let line : LinePrinted d.plan d.world ((b.lines + 1) % 18446744073709551616) c.line.result c.match-line.world b.out c.match-line.out = elim c.match-line.branch [
      | in-None w ↦ line_bad d.plan d.world _ w.in-None.is w.out-is w.world-is w.append_bad.ensures
      | in-Some w ↦ line_move d.plan d.world _ w.in-Some.is w.on_drill_bus.ensures w.act-moved.ensures w.out-is w.world-is w.append_move.ensures
    ] in record {
      state = ended_state a.self a.input.now b.byte-index c.loop-byte-test.true d b.invariant.state c.if-byte-ne10.false c.line.ensures refl line c.empty-held.ensures;
      text = ended_text a.self a.input.now b.byte-index c.loop-byte-test.true d b.invariant.state c.if-byte-ne10.false c.line.ensures refl line _ b.invariant.text;
    }
