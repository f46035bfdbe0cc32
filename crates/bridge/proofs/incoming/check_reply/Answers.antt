use Rattle.std.proofs.lemmas.Result.{err_from_is_err_and}
use mathlib.Core.Path.{sym}
use Rattle.wire.proofs.Orders.{order}
use Rattle.bridge_rules.specs.Incoming.{reply_number}
use Rattle.bridge.proofs.Replies.{lent_sound}
use Rattle.bridge.proofs.incoming.check_reply.Goals as goal

pub returns-in_err-check_lent : goal.returns-in_err-check_lent
unfolding reply_number
returns-in_err-check_lent c =
    let r = err_from_is_err_and c.from_residual.result c.from_residual.ensures.1 in
    rw (r.1, r.2) (search order depth 12, tt)

pub check_content-requires : goal.check_content-requires
check_content-requires c = lent_sound c.args.b _ (sym c.in_ok-check_lent.ensures)

pub returns : goal.returns
unfolding reply_number
returns c = (search order depth 12, c.check_content.ensures.1)
