use Rattle.std.proofs.Common.{◌+◌, length, arith}
use Rattle.mlg_rules.specs.Writing.{header_for}
use Rattle.mlg_rules.proofs.Fits.{fit, file_most}
use Rattle.mlg_rules.proofs.HeaderBytes.{start_most}
use Rattle.mlg_rules.proofs.LayoutLaws.{header_of, field_of, field_least}
use Rattle.mlg.proofs.header_writing.Parts.header.Goals as goal

pub overflow_add-at : goal.overflow_add-at
overflow_add-at c = omega (arith, header_of c.args.self.now.version _ c.layout_of-layout.ensures, file_most _ _ _ _ c.requires)

pub overflow_add-at-2 : goal.overflow_add-at-2
overflow_add-at-2 c = omega (arith, header_of c.args.self.now.version _ c.layout_of-layout.ensures, file_most _ _ _ _ c.requires)

pub overflow_cast-result : goal.overflow_cast-result
overflow_cast-result c =
    let s = c.args.self.now in
    let at = c.layout_of-layout.result.header + length s.fields.now + length s.names.now in
    omega (
      arith,
      header_of s.version _ c.layout_of-layout.ensures,
      file_most _ _ _ _ c.requires,
      c.info_start.ensures,
      start_most at s.info.now,
    )

pub overflow_cast-result-3 : goal.overflow_cast-result-3
overflow_cast-result-3 c = omega (arith, c.sizes_of.ensures, (fit _ _ _ _ c.requires).small)

pub nonzero_div-result : goal.nonzero_div-result
nonzero_div-result c = let v = c.args.self.now.version in omega (arith, field_of v _ c.layout_of-layout.ensures, field_least v)

pub overflow_cast-result-4 : goal.overflow_cast-result-4
overflow_cast-result-4 c = rw (field_of c.args.self.now.version _ c.layout_of-layout.ensures) (omega (arith, (fit _ _ _ _ c.requires).few))

pub returns : goal.returns
unfolding header_for
returns c =
    rw (c.info_start.ensures, c.total_len.ensures.0, c.sizes_of.ensures, c.layout_of-layout.ensures)
