-- By the records so far.
use Rattle.std.proofs.Common.{◌≡◌, ℕ}
use Rattle.base_lists.specs.Bounded.{tab}
use Rattle.set_plan.specs.declared.Plan.{Plan}
use Rattle.bus.specs.declared.World.{World}
use Rattle.base_text.specs.Text.{wrote}
use Rattle.bus_moves.specs.Records.{record_at}
use Rattle.drill_replay.specs.declared.Replay.{Replay}
use Rattle.drill_replay.specs.Replay.{after_all, all_printed}
use Rattle.drill_replay.proofs.Replay.feed_from.Given as goal

abbrev pub replay : Plan → World → ℕ → Replay
replay plan world count = record { plan = plan; world = world; count = count }

abbrev pub invariant-loop-k : goal.invariant-loop-k
invariant-loop-k l = record {
  state : replay l.plan l.world l.count ≡ after_all (replay l.plan l.initial.world l.initial.count) (tab l.k (record_at l.input));
  text : l.out ≡ wrote (all_printed (replay l.plan l.initial.world l.initial.count) (tab l.k (record_at l.input))) l.initial.out;
}
