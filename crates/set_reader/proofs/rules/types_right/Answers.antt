-- Block by block. Assumes nothing.
use mathlib.Core.Path.{ap, ap₂}
use mathlib.Core.Bool.{◌&&◌, ◌||◌}
use Rattle.set_reader.specs.Layout.{one_message_block}
use Rattle.set_reader.specs.Rules.{types_right}
use Rattle.set_reader.proofs.rules.types_right.Goals as goal

pub returns : goal.returns
unfolding types_right
returns c =
    ap₂ ◌&&◌ (ap₂ ◌&&◌ c.type_right.ensures c.type_right-2.ensures) (ap (λ x. one_message_block c.args.s.now || x) c.type_right-3.ensures)
