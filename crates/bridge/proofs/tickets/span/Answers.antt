use Prim.Native.Nat.{◌+◌, ◌≤◌}
use Rattle.std.proofs.lemmas.Result.{err_from_is_err_and}
use mathlib.Core.Path.{◌∙◌, sym, subst}
use native.Mathlib.Omega.{arith}
use lib.ListN.{length}
use Rattle.wire.specs.declared.views.Span.{Span}
use Rattle.bridge.proofs.Searches.{held_small}
use Rattle.bridge.proofs.Spans.{span_refused, span_is, span_fits}
use Rattle.bridge.proofs.tickets.span.Goals as goal

pub returns-in_err-k : goal.returns-in_err-k
returns-in_err-k c =
    let r = err_from_is_err_and c.from_residual.result c.from_residual.ensures.1 in
    rw (r.1, r.2) (span_refused _ _ _ _ c.in_err-k.ensures.0, omega arith)

pub slot_span-requires : goal.slot_span-requires
slot_span-requires c = held_small c.args.b c.args.ticket _ c.in_ok-k.ensures.1

pub returns : goal.returns
returns c =
    let a = c.args in
    let f = c.in_ok-k.ensures in
    let fits = span_fits a.b (length a.first.now) a.ticket f.0 c.in_ok-k.k f.1 in (
      c.slot_span.ensures ∙ span_is a.b (length a.first.now) a.ticket f.0 c.in_ok-k.k f.1,
      subst (λ (x : Span). x.start + x.len ≤ length a.first.now) (sym c.slot_span.ensures) fits,
    )
