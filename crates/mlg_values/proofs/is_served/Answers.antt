use mathlib.Core.Path.{refl}
use Rattle.mlg_rules.specs.Layout.{served}
use Rattle.mlg_values.proofs.is_served.Goals as goal

pub returns : goal.returns
unfolding served
returns c = refl
