use Rattle.std.proofs.Common.{◌≡◌, List, ℕ, length, refl, sym, ap, ◌∙◌, arith}
use Rattle.std.proofs.lemmas.Result.{err_from_is_err_and}
use Rattle.wire.specs.Text.{text_len}
use Rattle.wire.proofs.Parts.{tail_part}
use Rattle.mlg_rules.specs.declared.Header.{Header}
use Rattle.mlg_rules.specs.Header.{read_header_number, numbers_of}
use Rattle.mlg_rules.specs.Parts.{info_span_of, info_length}
use Rattle.mlg_rules.proofs.HeaderLaws.{Placed}
use Rattle.mlg_rules.proofs.SpanLaws.{refused, given, placed_in, info_none, info_some, info_fits}
use Rattle.mlg.proofs.spans.info_span.Goals as goal

pub returns-in_err-start : goal.returns-in_err-start
unfolding info_span_of
returns-in_err-start c =
    let r = err_from_is_err_and c.from_residual.result c.from_residual.ensures.1 in
    rw (r.1, r.2) (refused _ _ _ _ c.args.file.now c.in_err-start.ensures.number)

-- where the header's numbers are read, its places stand
in-file : (file : List ℕ) (h : Header) → h ≡ numbers_of file → read_header_number file ≡ 0 → Placed (length file) h
in-file file h is stands = rw (← is) at (placed_in file stands)

pub returns-then-start-eq0 : goal.returns-then-start-eq0
unfolding info_span_of
returns-then-start-eq0 c =
    let f = c.args.file.now in
    let z = rw (c.in_ok-start.ensures.value _ refl) at c.if-start-eq0.true in
    given _ _ _ (record { start = 0; len = 0 }) f (sym c.in_ok-start.ensures.number) (sym z) (sym (info_none f _ z)) (omega arith)

pub slice_bounds-text_len-count : goal.slice_bounds-text_len-count
slice_bounds-text_len-count c =
    let p = in-file c.args.file.now _ (c.in_ok-start.ensures.value _ refl) (sym c.in_ok-start.ensures.number) in
    omega (arith, p.info_before_lem c.if-start-eq0.false, p.data_begins)

pub slice_bounds-text_len-start : goal.slice_bounds-text_len-start
slice_bounds-text_len-start c =
    let p = in-file c.args.file.now _ (c.in_ok-start.ensures.value _ refl) (sym c.in_ok-start.ensures.number) in
    omega (arith, p.info_before_lem c.if-start-eq0.false, p.data_begins)

pub returns : goal.returns
unfolding info_span_of
returns c =
    let f = c.args.file.now in
    let h = c.in_ok-start.field-0 in
    let is = c.in_ok-start.ensures.value _ refl in
    let stands = sym c.in_ok-start.ensures.number in
    let some = c.if-start-eq0.false in
    let t = c.text_len.ensures ∙ ap text_len (tail_part f h.info) in
    given _ _ _ (record { start = h.info; len = c.text_len.result }) f stands (ap (λ (g : Header). g.info) is)
    (t ∙ sym (info_some f h some) ∙ ap (info_length f) is) (omega (arith, t, info_fits f h (in-file f h is stands) some))
