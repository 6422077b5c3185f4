-- By the lines so far.
use mathlib.Core.Path.{◌≡◌}
use Rattle.base_text.specs.Text.{wrote}
use Rattle.set_text.specs.Show.{rows_text}
use Rattle.set_text.proofs.append_rows.Given as goal

abbrev pub invariant-loop-row : goal.invariant-loop-row
invariant-loop-row l = l.out ≡ wrote (rows_text l.rows l.row-index) l.initial.out
