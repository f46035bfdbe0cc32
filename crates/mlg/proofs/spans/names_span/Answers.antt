use Rattle.std.proofs.Common.{refl, sym, arith}
use Rattle.std.proofs.lemmas.Result.{err_from_is_err_and}
use Rattle.mlg_rules.specs.Parts.{names_span_of}
use Rattle.mlg_rules.proofs.SpanLaws.{refused, given, placed_in, names_fit}
use Rattle.mlg.proofs.spans.names_span.Goals as goal

pub returns-in_err-h : goal.returns-in_err-h
unfolding names_span_of
returns-in_err-h c =
    let r = err_from_is_err_and c.from_residual.result c.from_residual.ensures.1 in
    rw (r.1, r.2) (refused _ _ _ _ c.args.file.now c.in_err-h.ensures.number)

pub overflow_sub-result : goal.overflow_sub-result
overflow_sub-result c =
    let fit = names_fit _ _ (placed_in c.args.file.now (sym c.in_ok-h.ensures.number)) in
    rw (c.fields_end-start.ensures, c.names_end.ensures, c.in_ok-h.ensures.value _ refl) fit.0

pub returns : goal.returns
unfolding names_span_of
returns c =
    let f = c.args.file.now in
    let stands = sym c.in_ok-h.ensures.number in
    let fit = names_fit _ _ (placed_in f stands) in
    rw (c.fields_end-start.ensures, c.names_end.ensures, c.in_ok-h.ensures.value _ refl)
    (given _ _ _ _ f stands refl refl (omega (arith, fit.0, fit.1)))
