use Rattle.std.proofs.Common.{arith}
use Rattle.mlg_rules.specs.Header.{fields_end}
use Rattle.mlg_rules.proofs.LayoutLaws.{fields_most, header_most}
use Rattle.mlg.proofs.header_reading.fields_end.Goals as goal

pub overflow_mul-result : goal.overflow_mul-result
overflow_mul-result c = let h = c.args.h in rw (c.layout_of-layout.ensures, c.from.ensures) (omega (arith, fields_most h.version h.count))

pub overflow_add-result : goal.overflow_add-result
overflow_add-result c =
    let h = c.args.h in
    rw (c.layout_of-layout.ensures, c.from.ensures) (omega (arith, header_most h.version, fields_most h.version h.count))

pub returns : goal.returns
unfolding fields_end
returns c = rw (c.layout_of-layout.ensures, c.from.ensures)
