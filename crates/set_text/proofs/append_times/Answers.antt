-- One text after the other.
use Rattle.base_text.proofs.Appends.{wrote_then}
use Rattle.set_text.specs.Show.{times_text}
use Rattle.set_text.proofs.append_times.Goals as goal

pub returns : goal.returns
unfolding times_text
returns c = wrote_then _ _ _ (wrote_then _ _ _ (wrote_then _ _ _ (wrote_then _ _ _ c.append_time.ensures c.append_time-2.ensures) c.append_time-3.ensures) c.append_time-4.ensures) c.append_wake_up_times.ensures
