-- Block by block. Assumes nothing.
use mathlib.Core.Path.{ap, ap₂}
use mathlib.Core.Bool.{◌&&◌, ◌||◌}
use Rattle.set_reader.specs.Layout.{one_message_block}
use Rattle.set_reader.specs.Rules.{revisions_same}
use Rattle.set_reader.proofs.rules.revisions_same.Goals as goal

pub returns : goal.returns
unfolding revisions_same
returns c =
    ap₂ ◌&&◌ (ap₂ ◌&&◌ c.revision_same.ensures c.revision_same-2.ensures) (ap (λ x. one_message_block c.args.s.now || x) c.revision_same-3.ensures)
