use Rattle.std.proofs.Common.{subst, ◌∙◌, arith}
use Rattle.mlg.specs.Areas.{Tells}
use Rattle.mlg_rules.proofs.AreaLaws.{file_area}
use Rattle.mlg_rules.proofs.HeaderLaws.{placed}
use Rattle.mlg.proofs.header_reading.area_in.Goals as goal

pub slice_bounds-of-count : goal.slice_bounds-of-count
slice_bounds-of-count c = omega (arith, c.fields_end-end.ensures, (placed _ _ c.requires).after_fields)

pub slice_bounds-of-start : goal.slice_bounds-of-start
slice_bounds-of-start c =
    let p = placed _ _ c.requires in
    omega (arith, c.fields_end-end.ensures, p.after_fields, p.data_begins)

pub slice_bounds-of-end : goal.slice_bounds-of-end
slice_bounds-of-end c =
    let p = placed _ _ c.requires in
    omega (arith, c.fields_end-end.ensures, p.after_fields, p.data_begins)

pub returns : goal.returns
returns c =
    let a = c.args in
    let end = c.fields_end-end in
    let area = file_area a.file.now a.h end.result end.ensures in
    (c.of.ensures.base ∙ end.ensures, subst (Tells c.of.result) area c.of.ensures.told)
