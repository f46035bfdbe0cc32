use mathlib.Core.Path.{refl}
use Rattle.mlg_rules.specs.Layout.{layout_of}
use Rattle.mlg_values.proofs.layout_of.Goals as goal

pub returns : goal.returns
unfolding layout_of
returns c = refl
