use Rattle.std.proofs.Common.{inl, inr}
use mathlib.Core.Path.{refl, ap, ◌∙◌}
use native.Mathlib.Omega.{arith}
use lib.ListN.{length, length-append}
use Rattle.mlg_rules.specs.declared.Layout.{Layout}
use Rattle.listing_rules.proofs.FieldLines.{field_cut, field_none, fields_all, len_89, fields_fit}
use Rattle.listing.proofs.Puts.{completes_all, completes_next, completed}
use Rattle.listing.proofs.text.Text.put_field_lines.Goals as goal

pub chunks_exact-requires : goal.chunks_exact-requires
chunks_exact-requires c = omega (arith, ap (λ (l : Layout). l.field) c.layout_of-layout.ensures, len_89 c.args.version)

pub loop-index-init : goal.loop-index-init
loop-index-init c =
    let a = c.args in
    let it = c.into_iter-index-iterator.ensures.into_iter_gives in
    let zip = c.zip-index-items.ensures in
    let chunks = c.chunks_exact.ensures in
    let len = ap (λ (l : Layout). l.field) c.layout_of-layout.ensures ∙ len_89 a.version in
    rw (it, zip.first, zip.second, chunks.size, chunks.rest, len) (
      ((tt, omega arith), tt),
      refl,
      refl,
      omega arith,
      omega (arith, fields_fit a.version a.count _ c.requires),
      completes_all _ _ _ (fields_all a.version a.count a.fields.now),
    )

pub put_field_line-requires : goal.put_field_line-requires
put_field_line-requires c = omega (arith, c.in-Some.ensures.steps.1.1.1, c.loop-index.invariant.1)

pub loop-index-preserved : goal.loop-index-preserved
loop-index-preserved c =
    let inv = c.loop-index.invariant in
    let range = c.in-Some.ensures.steps.0 in
    let chunk = c.in-Some.ensures.steps.1 in
    let it = c.loop-index.index-iterator in (
      ((tt, omega arith), tt),
      omega arith,
      omega arith,
      omega arith,
      omega (arith, simp length-append at (ap length chunk.1.0)),
      rw range.1.2
          (completes_next inv.5
          (field_cut c.args.version it.a.start c.args.count it.b.rest.now _ _ (omega arith) chunk.1.0 (omega arith))
          (rw range.1.1 at c.put_field_line.ensures)),
    )

pub returns : goal.returns
returns c =
    let inv = c.loop-index.invariant in
    completed inv.5 (field_none _ _ _ _ (elim c.in-None.ensures.steps [
      | inl h ↦ omega (arith, h.1.1.0)
      | inr h ↦ omega (arith, h.1.1.0)
    ]))
