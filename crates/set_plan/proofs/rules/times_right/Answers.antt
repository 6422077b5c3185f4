-- By what each test ensures. Assumes nothing.
use mathlib.Core.Path.{refl, ap₂}
use mathlib.Core.Bool.{◌&&◌}
use Rattle.set_plan.specs.Rules.{times_right}
use Rattle.set_plan.proofs.rules.times_right.Goals as goal

pub returns : goal.returns
unfolding times_right
returns c = ap₂ ◌&&◌ (ap₂ ◌&&◌ (ap₂ ◌&&◌ (ap₂ ◌&&◌ (ap₂ ◌&&◌ (ap₂ ◌&&◌ (ap₂ ◌&&◌ c.between.ensures c.between-2.ensures) c.between-3.ensures) c.between-4.ensures) c.between-5.ensures) c.between-6.ensures) c.between-7.ensures) (refl)
