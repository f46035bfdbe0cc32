use Rattle.std.proofs.Common.{refl, sym, arith}
use Rattle.std.proofs.lemmas.Result.{err_from_is_err_and}
use Rattle.mlg_rules.specs.Parts.{fields_span_of}
use Rattle.mlg_rules.proofs.FieldsPlaced.{fields_placed}
use Rattle.mlg_rules.proofs.LayoutLaws.{fields_most}
use Rattle.mlg_rules.proofs.SpanLaws.{refused, given, placed_in, fields_fit}
use Rattle.mlg.proofs.spans.fields_span.Goals as goal

pub returns-in_err-h-clause-fact : goal.returns-in_err-h-clause-fact
unfolding fields_span_of
returns-in_err-h-clause-fact c =
    let r = err_from_is_err_and c.from_residual.result c.from_residual.ensures.1 in
    rw (r.1, r.2) (refused _ _ _ _ c.args.file.now c.in_err-h.ensures.number)

pub returns-in_err-h-clause-each : goal.returns-in_err-h-clause-each
returns-in_err-h-clause-each c = fields_placed

pub overflow_mul-result : goal.overflow_mul-result
overflow_mul-result c =
    let h = c.in_ok-h.h in
    rw (c.layout_of-layout.ensures, c.from.ensures) (omega (arith, fields_most h.version h.count))

pub returns-clause-fact : goal.returns-clause-fact
unfolding fields_span_of
returns-clause-fact c =
    let f = c.args.file.now in
    let stands = sym c.in_ok-h.ensures.number in
    rw (c.layout_of-layout.ensures, c.from.ensures, c.in_ok-h.ensures.value _ refl)
    (given _ _ _ _ f stands refl refl (fields_fit _ _ (placed_in f stands)))

pub returns-clause-each : goal.returns-clause-each
returns-clause-each c = fields_placed
