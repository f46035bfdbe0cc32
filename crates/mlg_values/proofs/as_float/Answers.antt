use mir.Syntax.{w64}
use mir.ValLaws.{to_z-of_z}
use Rattle.mlg_rules.proofs.RawLaws.{in_float_lem}
use Rattle.mlg_values.proofs.as_float.Goals as goal

pub int_to_float-result : goal.int_to_float-result
int_to_float-result c = rw (to_z-of_z w64 c.args.z c.ranges.z) (in_float_lem c.args.z c.requires)
