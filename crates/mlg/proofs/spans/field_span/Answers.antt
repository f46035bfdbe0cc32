use Rattle.std.proofs.Common.{◌≤◌, ◌<◌, refl, sym, arith}
use Rattle.std.proofs.lemmas.Result.{err_from_is_err_and}
use borrow.Author.Tests.{le-leb, lt-leb}
use Rattle.wire.specs.declared.refusal.Refusal.TheVariants as R
use Rattle.wire.proofs.Orders.{else_none, else_refused, if_yes, if_no}
use Rattle.mlg_rules.specs.Header.{numbers_of}
use Rattle.mlg_rules.specs.Parts.{field_span_of}
use Rattle.mlg_rules.proofs.LayoutLaws.{header_most, fields_most}
use Rattle.mlg_rules.proofs.SpanLaws.{refused, given, placed_in, field_fits}
use Rattle.mlg.proofs.spans.field_span.Goals as goal

pub returns-in_err-h : goal.returns-in_err-h
unfolding field_span_of
returns-in_err-h c =
    let r = err_from_is_err_and c.from_residual.result c.from_residual.ensures.1 in
    rw (r.1, r.2) (refused _ _ _ _ c.args.file.now (else_refused _ _ _ c.in_err-h.ensures.number))

pub returns-then-h-index : goal.returns-then-h-index
unfolding field_span_of
returns-then-h-index c =
    let a = c.args in
    let past : (numbers_of a.file.now).count ≤ a.index = rw (c.in_ok-h.ensures.value _ refl) at c.if-h-index.true in
    refused _ _ _ R.Disagree a.file.now (else_none _ _ 23 _ c.in_ok-h.ensures.number refl (if_yes 23 _ 0 (le-leb _ _ past)))

pub overflow_mul-result : goal.overflow_mul-result
overflow_mul-result c =
    rw c.layout_of-layout.ensures (omega (arith, c.from.ensures, fields_most c.in_ok-h.h.version c.from.result))

pub overflow_add-result : goal.overflow_add-result
overflow_add-result c =
    let h = c.in_ok-h.h in
    rw c.layout_of-layout.ensures (omega (arith, c.from.ensures, header_most h.version, fields_most h.version c.from.result))

pub returns : goal.returns
unfolding field_span_of
returns c =
    let a = c.args in
    let f = a.file.now in
    let stands = sym c.in_ok-h.ensures.number in
    let is = c.in_ok-h.ensures.value _ refl in
    let inside : a.index < (numbers_of f).count = rw is at c.if-h-index.false in
    let number = sym (else_none _ _ 0 _ c.in_ok-h.ensures.number refl (if_no 23 _ 0 0 (lt-leb _ _ inside) refl)) in
    rw (c.layout_of-layout.ensures, c.from.ensures, is)
    (given _ _ _ _ f number refl refl (field_fits _ _ a.index (placed_in f stands) inside))
