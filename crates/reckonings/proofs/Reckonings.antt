-- Every row of the table, by computation: `unfolding` opens the definitions that a question reaches.
use mathlib.Core.Path.{refl}
use lib.Ieee.{add, mul, div, of_int, of_bits, to_bits, of_fields, round, units, odd, climb, span, size}
use Rattle.bridge_rules.proofs.Computing.{everything}
use Rattle.mlg_rules.proofs.Computing.{mlg}
use Rattle.reckonings.specs.Reckonings.{Reckonings, table, compute, directory, scalar, f32}

unfoldable floats : Unit {0}
unfolding add mul div of_int of_bits to_bits of_fields round units odd climb span size
floats = tt

pub reckoned : Reckonings
unfolding everything floats mlg table compute directory scalar f32
reckoned = refl
