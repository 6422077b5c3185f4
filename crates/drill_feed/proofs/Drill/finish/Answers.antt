-- A held line ends, or there is none.
use Rattle.std.proofs.Common.{refl, ◌∙◌, arith}
use Rattle.drill_feed.proofs.Feeding.{last_none, last_one, printed_end, fed_end, still_fed, ended-fed}
use Rattle.drill_feed.proofs.Drill.finish.Goals as goal

pub returns-then-self-eq0 : goal.returns-then-self-eq0
returns-then-self-eq0 c =
    let d = c.args.self in
    record { gives_first = record { state = still_fed d c.if-self-eq0.true; shown = last_none d _ c.if-self-eq0.true }; counts = (omega arith, refl) }

pub returns : goal.returns
returns c = record {
  gives_first = record {
    state = c.feed.ensures.gives_first.state ∙ fed_end _ ∙ ended-fed c.args.self c.if-self-eq0.false;
    shown = last_one c.args.self c.if-self-eq0.false (rw printed_end at c.feed.ensures.gives_first.shown);
  };
  counts = c.feed.ensures.counts;
}
