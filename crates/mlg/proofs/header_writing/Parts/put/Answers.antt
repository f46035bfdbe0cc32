use Rattle.std.proofs.Common.{ap, ◌∙◌, arith}
use Rattle.mlg_rules.specs.Writing.{number_bytes}
use Rattle.mlg_rules.proofs.AreaLaws.{area_length}
use Rattle.mlg_rules.proofs.Fits.{file_most}
use Rattle.mlg_rules.proofs.HeaderBytes.{header_length, header_put}
use Rattle.mlg_rules.proofs.LayoutLaws.{header_of}
use Rattle.mlg.proofs.header_writing.Parts.put.Goals as goal

pub header-requires : goal.header-requires
header-requires c = c.requires.0

pub overflow_add-end : goal.overflow_add-end
overflow_add-end c = omega (arith, header_of c.args.self.now.version _ c.layout_of-start.ensures, file_most _ _ _ _ c.requires.0)

pub overflow_add-end-2 : goal.overflow_add-end-2
overflow_add-end-2 c = omega (arith, header_of c.args.self.now.version _ c.layout_of-start.ensures, file_most _ _ _ _ c.requires.0)

pub put_ended-requires : goal.put_ended-requires
put_ended-requires c =
    let s = c.args.self.now in
    omega (
      arith,
      header_of s.version _ c.layout_of-start.ensures,
      c.requires.1,
      header_length s.version s.time s.fields.now s.names.now s.info.now,
      area_length s.names.now s.info.now,
    )

pub returns : goal.returns
returns c =
    let s = c.args.self.now in
    let first = c.number_bytes-first.ensures ∙ ap number_bytes c.header.ensures in
    header_put s.version s.time s.fields.now s.names.now s.info.now c.args.out.now _ _ first (header_of s.version _ c.layout_of-start.ensures) c.requires.1
    c.put.ensures c.put-2.ensures c.put-3.ensures c.put_ended.ensures
