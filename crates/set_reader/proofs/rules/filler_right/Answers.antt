-- Block by block. Assumes nothing.
use mathlib.Core.Path.{ap₂, sym, ◌∙◌}
use mathlib.Core.Bool.{◌&&◌}
use Rattle.set_reader.proofs.Filler.{filler_short, filler_long}
use Rattle.set_reader.proofs.Content.{length_long}
use Rattle.set_reader.proofs.rules.filler_right.Goals as goal

pub returns-then-s-eq-SHORT_LENGTH : goal.returns-then-s-eq-SHORT_LENGTH
returns-then-s-eq-SHORT_LENGTH c = ap₂ ◌&&◌ c.plan_filler.ensures c.message_filler.ensures ∙ sym (filler_short _ c.if-s-eq-SHORT_LENGTH.true)

pub returns-else-s-eq-SHORT_LENGTH : goal.returns-else-s-eq-SHORT_LENGTH
returns-else-s-eq-SHORT_LENGTH c =
    ap₂ ◌&&◌ (ap₂ ◌&&◌ c.plan_filler-else-s-eq-SHORT_LENGTH.ensures c.message_filler-else-s-eq-SHORT_LENGTH.ensures) c.message_filler-else-s-eq-SHORT_LENGTH-2.ensures
    ∙ sym (filler_long _ (length_long _ c.requires c.if-s-eq-SHORT_LENGTH.false))
