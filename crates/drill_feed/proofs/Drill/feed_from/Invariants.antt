-- By the bytes so far.
use Rattle.std.proofs.Common.{◌≡◌, ℕ, take}
use Rattle.set_plan.specs.declared.Plan.{Plan}
use Rattle.bus.specs.declared.World.{World}
use Rattle.base_text.specs.Text.{wrote}
use Rattle.drill_feed.specs.declared.Drill.{Drill}
use Rattle.drill_feed.specs.declared.Held.{Held}
use Rattle.drill_feed.specs.Feed.{fed, printed}
use Rattle.drill_feed.proofs.Drill.feed_from.Given as goal

abbrev pub drill : Plan → World → ℕ → Held → Drill
drill plan world lines held = record { plan = plan; world = world; lines = lines; held = held }

abbrev pub invariant-loop-byte : goal.invariant-loop-byte
invariant-loop-byte l = record {
  state : drill l.plan l.world l.lines l.held ≡ fed (drill l.plan l.initial.world l.initial.lines l.initial.held) (take l.byte-index l.input);
  text : l.out ≡ wrote (printed (drill l.plan l.initial.world l.initial.lines l.initial.held) (take l.byte-index l.input)) l.initial.out;
}
