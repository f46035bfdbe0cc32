use Rattle.std.proofs.Common.{◌∙◌, ap}
use Rattle.std.proofs.lemmas.Result.{err_from_is_err_and}
use Rattle.wire.specs.declared.views.Span.{Span}
use Rattle.wire.specs.Log.{part_of}
use Rattle.bus_rules.proofs.FrameLaws.{part_is}
use Rattle.bridge_rules.specs.Ending.{bytes_of}
use Rattle.bridge.proofs.tickets.bytes.Goals as goal

pub returns-in_err-part : goal.returns-in_err-part
unfolding bytes_of
returns-in_err-part c =
    let e = c.in_err-part.ensures.0 in
    let r = err_from_is_err_and c.from_residual.result c.from_residual.ensures.1 in
    rw (r.1, r.2) (ap (λ (x : Span). x.number) e, ap (part_of c.args.first.now) e)

pub returns : goal.returns
unfolding bytes_of
returns c =
    let e = c.in_ok-part.ensures.0 in
    (ap (λ (x : Span). x.number) e, part_is c.args.first.now c.in_ok-part.part.start c.in_ok-part.part.len ∙ ap (part_of c.args.first.now) e)
