use Rattle.std.proofs.lemmas.Result.{err_from_is_err_and}
use mathlib.Core.Path.{◌∙◌}
use Rattle.bridge_rules.proofs.SoundTest.{true_sound}
use Rattle.bridge.proofs.Replies.{head_is, content_parts, content_refused}
use Rattle.bridge.proofs.incoming.check_content.Goals as goal

pub returns-in_err-p : goal.returns-in_err-p
returns-in_err-p c =
    let own = (true_sound c.args.b c.requires).own in
    let r = err_from_is_err_and c.from_residual.result c.from_residual.ensures.1 in
    rw (r.1, r.2) (content_refused c.args.b.own c.args.f own _ _ c.in_err-p.ensures.1, tt)

pub check_parts-requires : goal.check_parts-requires
check_parts-requires c =
    let own = (true_sound c.args.b c.requires).own in
    (c.requires, (head_is c.args.b.own c.args.f own _ c.in_ok-p.ensures.0).1)

pub returns : goal.returns
returns c =
    let own = (true_sound c.args.b c.requires).own in
    let e = c.in_ok-p.ensures.0 in
    (c.check_parts.ensures.0 ∙ content_parts c.args.b.own c.args.f own _ _ e, c.check_parts.ensures.1)
