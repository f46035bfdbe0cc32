use Rattle.std.specs.Prelude.{◌<◌, length}
use mathlib.Core.Path.{◌≡◌, refl, sym, ap, ◌∙◌}
use native.Mathlib.Omega.{arith}
use Rattle.mlg_rules.specs.declared.Layout.{Layout}
use Rattle.listing_rules.proofs.FieldLines.{len_89}
use Rattle.listing_rules.proofs.ValuesText.{Cut, value_next, not_refused_next, raw_within, values_none, no_field}
use Rattle.listing.proofs.Puts.{completes_all, completes_next, completed}
use Rattle.listing.proofs.text.Text.put_values.Goals as goal
use Rattle.listing.proofs.text.Text.put_values.Goals.{After-split_at}

pub chunks_exact-requires : goal.chunks_exact-requires
chunks_exact-requires c = omega (arith, ap (λ (l : Layout). l.field) c.layout_of-layout.ensures, len_89 c.args.version)

pub loop-field-init : goal.loop-field-init
loop-field-init c =
    let it = c.into_iter-field-iterator.ensures.into_iter_gives in
    let taken = c.take-field-items.ensures in
    let chunks = c.chunks_exact.ensures in
    let len = ap (λ (l : Layout). l.field) c.layout_of-layout.ensures ∙ len_89 c.args.version in
    rw (it, taken.source, taken.count, chunks.size, chunks.rest, len, c.from.ensures)
    ((omega arith, tt), refl, c.requires, completes_all _ _ _ refl)

pub bounds-field-0 : goal.bounds-field-0
bounds-field-0 c = omega (arith, c.in-Some.ensures.steps.0.1.1, c.loop-field.invariant.1)

pub split_at-requires : goal.split_at-requires
split_at-requires c =
    let chunk = c.in-Some.ensures.steps in
    let inv = c.loop-field.invariant in
    let long : length c.in-Some.field.now ≡ 89 = omega (arith, chunk.0.1.1, inv.1) in
    omega (arith, c.from-in-loop-field.ensures, c.size_of.ensures, raw_within _ _ _ _ _ _ _ (sym chunk.1) chunk.0.1.0 long inv.2)

-- the field and its raw bytes that are cut off
cut : (c : After-split_at)
    → let raw = c.split_at.result in
    let l = c.loop-field in
    Cut l.field-iterator.iter.rest.now l.rest.now c.in-Some.field.now c.next.new.self.iter.rest.now raw.0.now raw.1.now c.from-in-loop-field.result
cut c =
    let chunk = c.in-Some.ensures.steps.0 in
    record {
      fields_are = chunk.1.0;
      long = omega (arith, chunk.1.1, c.loop-field.invariant.1);
      size_is = c.from-in-loop-field.ensures ∙ c.size_of.ensures;
      raw_is = c.split_at.ensures.front;
      after_is = c.split_at.ensures.back;
    }

pub put_value-requires : goal.put_value-requires
put_value-requires c =
    (not_refused_next _ _ _ (sym c.in-Some.ensures.steps.1) (cut (goal.at.put_value-requires c).After-split_at) c.loop-field.invariant.2).0

pub loop-field-preserved : goal.loop-field-preserved
loop-field-preserved c =
    let chunk = c.in-Some.ensures.steps in
    let inv = c.loop-field.invariant in
    let here = cut (goal.at.loop-field-preserved c).After-split_at in (
      (omega (arith, chunk.0.0, inv.1), tt),
      omega (arith, chunk.0.0, inv.1),
      (not_refused_next _ _ _ (sym chunk.1) here inv.2).1,
      completes_next inv.3 (value_next _ _ _ (sym chunk.1) here) c.put_value.ensures,
    )

pub returns : goal.returns
returns c =
    let inv = c.loop-field.invariant in
    let it = c.loop-field.field-iterator in
    let last : 0 < it.n → length it.iter.rest.now < 89 = λ h. omega (arith, (c.in-None.ensures.steps h).1.0, inv.1) in
    completed inv.3 (values_none _ _ _ _ (no_field _ _ _ _ inv.2 last))
