use Rattle.std.proofs.Common.{◌<◌, length, ap, ◌∙◌, arith}
use Rattle.std.specs.Slice.Iter.{chunks_exact_rest, chunks_exact_size}
use Rattle.mlg_rules.specs.Layout.{field_len}
use Rattle.mlg_rules.proofs.LayoutLaws.{field_of, field_least}
use Rattle.mlg_rules.proofs.EachField.{chunk_sizes, chunk_no_sizes, sizes_fit}
use Rattle.mlg.proofs.header_writing.sizes_of.Goals as goal

pub chunks_exact-d-items-requires : goal.chunks_exact-d-items-requires
chunks_exact-d-items-requires c = omega (arith, field_of c.args.version _ c.layout_of.ensures, field_least c.args.version)

pub loop-d-init-derived : goal.loop-d-init-derived
loop-d-init-derived c =
    let e = c.into_iter-d-iterator.ensures.into_iter_gives in
    let a = c.args in
    (omega (arith, ap chunks_exact_size e, c.chunks_exact-d-items.ensures.size, field_of a.version _ c.layout_of.ensures, field_least a.version), tt)

pub overflow_add-total : goal.overflow_add-total
overflow_add-total c =
    let a = c.args in
    let inv = c.loop-d.invariant in
    let step = c.in-Some.ensures.steps in
    omega (
      arith,
      inv.1,
      chunk_sizes a.version _ _ _ step.1.0 (step.1.1 ∙ inv.0),
      c.from-total.ensures,
      c.size_of.ensures,
      sizes_fit a.version a.fields.now,
    )

pub loop-d-preserved : goal.loop-d-preserved
loop-d-preserved c =
    let inv = c.loop-d.invariant in
    let step = c.in-Some.ensures.steps in (
      step.0 ∙ inv.0,
      omega (arith, inv.1, chunk_sizes c.args.version _ _ _ step.1.0 (step.1.1 ∙ inv.0), c.from-total.ensures, c.size_of.ensures),
    )

pub returns : goal.returns
returns c =
    let inv = c.loop-d.invariant in
    let short : length (chunks_exact_rest c.loop-d.d-iterator) < field_len c.args.version = omega (arith, inv.0, c.in-None.ensures.steps.1.0) in
    omega (arith, inv.1, chunk_no_sizes c.args.version _ short)
