use Rattle.std.proofs.Common.{sym, ◌∙◌, ap}
use Rattle.std.proofs.lemmas.Result.{err_from_is_err_and}
use Rattle.wire.proofs.RefusalLaws.{refused, held}
use Rattle.bus_rules.specs.declared.Frame.{Frame}
use Rattle.bus_rules.specs.Ident.{no_parts, parts_of}
use Rattle.bus_rules.specs.Frames.{receive_number, read_head_of}
use Rattle.bus.proofs.ident.read_head.Goals as goal

pub returns-in_err-check_receiver : goal.returns-in_err-check_receiver
unfolding read_head_of
returns-in_err-check_receiver c =
    let r = err_from_is_err_and c.from_residual.result c.from_residual.ensures.1 in
    let n = c.in_err-check_receiver.ensures ∙ ap (receive_number c.args.own) c.new-x.ensures in
    rw (r.1, r.2) (refused no_parts (parts_of c.args.f.id) _ _ n)

pub returns : goal.returns
unfolding read_head_of
returns c =
    let n = c.in_ok-check_receiver.ensures ∙ ap (receive_number c.args.own) c.new-x.ensures in
    let p = c.new-x.result.read ∙ ap (λ (f : Frame). parts_of f.id) c.new-x.ensures in
    held no_parts (parts_of c.args.f.id) _ _ (sym n) p
