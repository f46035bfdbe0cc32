use Rattle.std.proofs.Common.{◌≡◌, ◌<◌, length, refl, sym, ap, ◌∙◌, arith}
use Rattle.std.proofs.lemmas.Result.{err_from_is_err_and}
use Rattle.std.specs.Slice.Iter.{chunks_exact_rest, chunks_exact_size}
use Rattle.wire.proofs.Orders.{else_none, else_refused}
use Rattle.mlg_rules.specs.Layout.{field_len}
use Rattle.mlg_rules.proofs.LayoutLaws.{field_of, field_least}
use Rattle.mlg_rules.proofs.EachField.{chunk_fields, chunk_sizes, chunk_no_fields, chunk_no_sizes, sizes_fit}
use Rattle.mlg.proofs.fields.Area.check_fields.Goals as goal

pub chunks_exact-d-items-requires : goal.chunks_exact-d-items-requires
chunks_exact-d-items-requires c = omega (arith, field_of c.args.version _ c.layout_of.ensures, field_least c.args.version)

pub loop-d-init-derived : goal.loop-d-init-derived
loop-d-init-derived c =
    let e = c.into_iter-d-iterator.ensures.into_iter_gives in
    let a = c.args in
    (omega (arith, ap chunks_exact_size e, c.chunks_exact-d-items.ensures.size, field_of a.version _ c.layout_of.ensures, field_least a.version), tt)

pub returns-in_err-total-clause-number : goal.returns-in_err-total-clause-number
returns-in_err-total-clause-number c =
    let r = err_from_is_err_and c.from_residual.result c.from_residual.ensures.1 in
    let inv = c.loop-d.invariant in
    let step = c.in-Some.ensures.steps in
    λ area told. rw (r.1, r.2)
    (else_refused _ _ _ (c.in_err-total.ensures.number area told)
    ∙ sym (chunk_fields c.args.version _ _ _ step.1.0 (step.1.1 ∙ inv.0) c.args.self.now.base area)
    ∙ inv.1 area told)

pub overflow_add-total : goal.overflow_add-total
overflow_add-total c =
    let a = c.args in
    let inv = c.loop-d.invariant in
    let step = c.in-Some.ensures.steps in
    omega (
      arith,
      inv.2,
      chunk_sizes a.version _ _ _ step.1.0 (step.1.1 ∙ inv.0),
      c.in_ok-total.ensures.size _ refl,
      sizes_fit a.version a.fields.now,
    )

pub loop-d-preserved : goal.loop-d-preserved
loop-d-preserved c =
    let a = c.args in
    let inv = c.loop-d.invariant in
    let step = c.in-Some.ensures.steps in
    let long = step.1.1 ∙ inv.0 in (
      step.0 ∙ inv.0,
      λ area told.
          else_none _ _ _ _ (c.in_ok-total.ensures.number area told) refl refl
          ∙ sym (chunk_fields a.version _ _ _ step.1.0 long a.self.now.base area)
          ∙ inv.1 area told,
      omega (arith, inv.2, chunk_sizes a.version _ _ _ step.1.0 long, c.in_ok-total.ensures.size _ refl),
    )

pub returns-clause-number : goal.returns-clause-number
returns-clause-number c =
    let a = c.args in
    let inv = c.loop-d.invariant in
    let short : length (chunks_exact_rest c.loop-d.d-iterator) < field_len a.version = omega (arith, inv.0, c.in-None.ensures.steps.1.0) in
    λ area told. sym (chunk_no_fields a.version a.self.now.base area _ short) ∙ inv.1 area told

pub returns-clause-size : goal.returns-clause-size
returns-clause-size c =
    let a = c.args in
    let inv = c.loop-d.invariant in
    let short : length (chunks_exact_rest c.loop-d.d-iterator) < field_len a.version = omega (arith, inv.0, c.in-None.ensures.steps.1.0) in
    λ n e. let q : c.loop-d.total ≡ n = cc in omega (arith, inv.2, chunk_no_sizes a.version _ short)
