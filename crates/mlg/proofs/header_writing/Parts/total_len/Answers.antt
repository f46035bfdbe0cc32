use Rattle.std.proofs.Common.{arith}
use Rattle.mlg_rules.proofs.AreaLaws.{area_length}
use Rattle.mlg_rules.proofs.Fits.{file_most}
use Rattle.mlg_rules.proofs.LayoutLaws.{header_of}
use Rattle.mlg.proofs.header_writing.Parts.total_len.Goals as goal

pub overflow_add-result : goal.overflow_add-result
overflow_add-result c =
    let s = c.args.self.now in
    omega (arith, header_of s.version _ c.layout_of.ensures, file_most _ _ _ _ c.requires)

pub overflow_add-result-2 : goal.overflow_add-result-2
overflow_add-result-2 c =
    let s = c.args.self.now in
    omega (arith, header_of s.version _ c.layout_of.ensures, file_most _ _ _ _ c.requires)

pub overflow_add-result-3 : goal.overflow_add-result-3
overflow_add-result-3 c =
    let s = c.args.self.now in
    omega (arith, header_of s.version _ c.layout_of.ensures, c.ended_len.ensures, file_most _ _ _ _ c.requires)

pub returns : goal.returns
returns c =
    let s = c.args.self.now in
    let start = header_of s.version _ c.layout_of.ensures in (
      omega (arith, start, c.ended_len.ensures, area_length s.names.now s.info.now),
      omega (arith, start, c.ended_len.ensures, file_most _ _ _ _ c.requires),
    )
