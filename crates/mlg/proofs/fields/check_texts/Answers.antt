use Rattle.std.proofs.Common.{arith}
use Rattle.wire.proofs.Orders.{order}
use Rattle.mlg_rules.specs.Fields.{texts_number}
use Rattle.mlg_rules.proofs.LayoutLaws.{field_least, category_least}
use Rattle.mlg.proofs.fields.check_texts.Goals as goal

pub unended-requires : goal.unended-requires
unended-requires c = omega (arith, field_least c.args.version)

pub returns-then-unended : goal.returns-then-unended
unfolding texts_number
returns-then-unended c = search order depth 9

pub unended-requires-2 : goal.unended-requires-2
unended-requires-2 c = omega (arith, field_least c.args.version)

pub returns-then-unended-2 : goal.returns-then-unended-2
unfolding texts_number
returns-then-unended-2 c = search order depth 9

pub unended-requires-3 : goal.unended-requires-3
unended-requires-3 c = omega (arith, category_least c.args.version)

pub returns-then-unended-3 : goal.returns-then-unended-3
unfolding texts_number
returns-then-unended-3 c = search order depth 9

pub returns : goal.returns
unfolding texts_number
returns c = search order depth 9
