-- The frame is as long as it was.
use Rattle.std.proofs.Common.{sym, rules}
use Rattle.std.proofs.lemmas.List.{length-take-le}
use Rattle.test_states.proofs.step_on.Goals as goal

pub slice_bounds-write_all-end-2 : goal.slice_bounds-write_all-end-2
slice_bounds-write_all-end-2 c = sym (length-take-le 2491 c.put_frame.new.frame (search rules))
