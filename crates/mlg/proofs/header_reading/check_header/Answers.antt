use Rattle.std.proofs.Common.{◌≡◌, refl, sym, ◌∙◌, arith}
use Rattle.std.proofs.lemmas.Result.{err_from_is_err_and}
use Rattle.wire.proofs.Orders.{else_none, else_refused}
use Rattle.mlg_rules.specs.Header.{fields_end, area_in, read_header_number, body_number}
use Rattle.mlg_rules.proofs.EachField.{read_fields, read_sizes}
use Rattle.mlg_rules.proofs.HeaderLaws.{placed}
use Rattle.mlg_rules.proofs.LayoutLaws.{header_of}
use Rattle.mlg.proofs.header_reading.check_header.Goals as goal

pub returns-in_err-check_name-clause-number : goal.returns-in_err-check_name-clause-number
unfolding read_header_number
returns-in_err-check_name-clause-number c =
    let r = err_from_is_err_and c.from_residual.result c.from_residual.ensures.1 in
    rw (r.1, r.2) (else_refused _ _ _ c.in_err-check_name.ensures)

pub returns-in_err-check_places-clause-number : goal.returns-in_err-check_places-clause-number
unfolding read_header_number
returns-in_err-check_places-clause-number c =
    let r = err_from_is_err_and c.from_residual-in_err-check_places.result c.from_residual-in_err-check_places.ensures.1 in
    rw (r.1, r.2, ← c.numbers-h.ensures) (else_none _ _ _ _ c.in_ok-check_name.ensures refl (else_refused _ _ _ c.in_err-check_places.ensures))

pub area_in-area-requires : goal.area_in-area-requires
area_in-area-requires c = sym c.in_ok-check_places.ensures

pub slice_bounds-check_fields-count : goal.slice_bounds-check_fields-count
unfolding fields_end
slice_bounds-check_fields-count c = omega (arith, header_of c.numbers-h.result.version _ c.layout_of.ensures, c.area_in-area.ensures.0)

pub slice_bounds-check_fields-start : goal.slice_bounds-check_fields-start
unfolding fields_end
slice_bounds-check_fields-start c =
    let p = placed _ _ (sym c.in_ok-check_places.ensures) in
    omega (arith, header_of c.numbers-h.result.version _ c.layout_of.ensures, p.fields)

pub slice_bounds-check_fields-end : goal.slice_bounds-check_fields-end
slice_bounds-check_fields-end c =
    let p = placed _ _ (sym c.in_ok-check_places.ensures) in
    omega (arith, c.area_in-area.ensures.0, p.fields)

pub returns-in_err-total-clause-number : goal.returns-in_err-total-clause-number
unfolding read_header_number body_number
returns-in_err-total-clause-number c =
    let file = c.args.file.now in
    let h = c.numbers-h.result in
    let p = placed _ _ (sym c.in_ok-check_places.ensures) in
    let r = err_from_is_err_and c.from_residual-in_err-total.result c.from_residual-in_err-total.ensures.1 in
    let area = c.area_in-area.ensures in
    let number = rw (area.0, header_of h.version _ c.layout_of.ensures) at (c.in_err-total.ensures.number (area_in file h) area.1) in
    let fields = number ∙ read_fields file h p.fields (fields_end h) (area_in file h) in
    rw (r.1, r.2, ← c.numbers-h.ensures)
    (else_none _ _ _ _ c.in_ok-check_name.ensures refl
    (else_none _ _ _ _ c.in_ok-check_places.ensures refl (else_refused _ _ _ fields)))

pub check_last-requires : goal.check_last-requires
check_last-requires c = (c.area_in-area.ensures.0, (placed _ _ (sym c.in_ok-check_places.ensures)).info_after)

pub returns-in_err-check_last-clause-number : goal.returns-in_err-check_last-clause-number
unfolding read_header_number body_number
returns-in_err-check_last-clause-number c =
    let file = c.args.file.now in
    let h = c.numbers-h.result in
    let p = placed _ _ (sym c.in_ok-check_places.ensures) in
    let r = err_from_is_err_and c.from_residual-in_err-check_last.result c.from_residual-in_err-check_last.ensures.1 in
    let area = c.area_in-area.ensures in
    let start = header_of h.version _ c.layout_of.ensures in
    let number = rw (area.0, start) at (c.in_ok-total.ensures.number (area_in file h) area.1) in
    let size = rw (area.0, start) at (c.in_ok-total.ensures.size _ refl) in
    let fields = number ∙ read_fields file h p.fields (fields_end h) (area_in file h) in
    let last = c.in_err-check_last.ensures _ (area_in file h) (size ∙ read_sizes file h p.fields) area.1 in
    rw (r.1, r.2, ← c.numbers-h.ensures)
    (else_none _ _ _ _ c.in_ok-check_name.ensures refl
    (else_none _ _ _ _ c.in_ok-check_places.ensures refl (else_none _ _ _ _ fields refl last)))

pub returns : goal.returns
unfolding read_header_number body_number
returns c =
    let file = c.args.file.now in
    let h = c.numbers-h.result in
    let p = placed _ _ (sym c.in_ok-check_places.ensures) in
    let area = c.area_in-area.ensures in
    let start = header_of h.version _ c.layout_of.ensures in
    let number = rw (area.0, start) at (c.in_ok-total.ensures.number (area_in file h) area.1) in
    let size = rw (area.0, start) at (c.in_ok-total.ensures.size _ refl) in
    let fields = number ∙ read_fields file h p.fields (fields_end h) (area_in file h) in
    let last = c.in_ok-check_last.ensures _ (area_in file h) (size ∙ read_sizes file h p.fields) area.1 in
    record {
      number = rw (← c.numbers-h.ensures)
          (else_none _ _ _ _ c.in_ok-check_name.ensures refl
          (else_none _ _ _ _ c.in_ok-check_places.ensures refl (else_none _ _ _ _ fields refl last)));
      value = λ k e. let q : h ≡ k = cc in sym q ∙ c.numbers-h.ensures;
    }
