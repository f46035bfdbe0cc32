-- Where the calls find the fields of a file whose header is accepted.
use Prim.Native.Nat.{◌*◌, ◌≤◌, ◌<◌}
use mathlib.Core.Path.{refl, sym, ap, ◌∙◌}
use native.Mathlib.Omega.{arith}
use borrow.Author.Tests.{le-leb, lt-leb}
use Rattle.wire.proofs.Orders.{if_yes, if_no, else_none}
use Rattle.mlg_rules.specs.Layout.{layout_of}
use Rattle.mlg_rules.specs.Header.{numbers_of}
use Rattle.mlg_rules.specs.Parts.{fields_span_of, field_span_of}
use Rattle.mlg_rules.specs.RoundTrip.{FieldsPlaced}
use Rattle.mlg_rules.specs.declared.Header.{Header}
use Rattle.mlg_rules.proofs.HeaderSame.{taken}
use Rattle.mlg_rules.proofs.SpanLaws.{span_yes, span_no}

pub fields_placed : FieldsPlaced
unfolding FieldsPlaced fields_span_of field_span_of layout_of
fields_placed f h e =
    let t = taken f h e in
    let count = ap (λ (g : Header). g.count) t.1 in
    let all = sym (span_yes _ 24 (89 * (numbers_of f).count) t.0) in (
      all ∙ rw count,
      λ i k.
          let inside : i < (numbers_of f).count = rw count k in
          rw all (sym (span_yes _ _ _ (sym (else_none _ _ 0 _ (sym t.0) refl (if_no 23 _ 0 0 (lt-leb _ _ inside) refl))))),
      λ i k.
          let past : (numbers_of f).count ≤ i = rw count k in
          sym (span_no _ _ _ 23 (else_none _ _ 23 _ (sym t.0) refl (if_yes 23 _ 0 (le-leb _ _ past))) (λ z. omega arith)),
    )
