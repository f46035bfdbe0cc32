use Rattle.std.proofs.Common.{◌∙◌, arith}
use Rattle.std.proofs.lemmas.Result.{err_from_is_err_and}
use Rattle.mlg_rules.specs.Area.{area_of}
use Rattle.mlg_rules.proofs.Fits.{fit, body_is}
use Rattle.mlg_rules.proofs.LayoutLaws.{header_of, header_most, header_some}
use Rattle.mlg.proofs.header_writing.Parts.check_body.Goals as goal

pub overflow_add-end : goal.overflow_add-end
overflow_add-end c = let v = c.args.self.now.version in omega (arith, header_of v _ c.layout_of.ensures, header_most v)

pub of-area-requires : goal.of-area-requires
of-area-requires c = (fit _ _ _ _ c.requires).text

pub returns-in_err-check_fields : goal.returns-in_err-check_fields
returns-in_err-check_fields c =
    let s = c.args.self.now in
    let r = err_from_is_err_and c.from_residual.result c.from_residual.ensures.1 in
    let number = c.in_err-check_fields.ensures.number (area_of s.names.now s.info.now) c.of-area.ensures.told in
    let e = rw (c.of-area.ensures.base, header_of s.version _ c.layout_of.ensures) at number in
    rw (r.1, r.2) (e ∙ body_is s.version s.time s.fields.now s.names.now s.info.now (header_some s.version) (fit _ _ _ _ c.requires).whole)

pub returns : goal.returns
returns c =
    let s = c.args.self.now in
    let number = c.in_ok-check_fields.ensures.number (area_of s.names.now s.info.now) c.of-area.ensures.told in
    let e = rw (c.of-area.ensures.base, header_of s.version _ c.layout_of.ensures) at number in
    e ∙ body_is s.version s.time s.fields.now s.names.now s.info.now (header_some s.version) (fit _ _ _ _ c.requires).whole
