use Rattle.std.proofs.lemmas.Result.{err_from_is_err_and}
use Rattle.wire.proofs.Orders.{order}
use Rattle.bus.proofs.holder.check_frame.Goals as goal

pub returns-in_err-check_head : goal.returns-in_err-check_head
returns-in_err-check_head c = λ e s q.
    let r = err_from_is_err_and c.from_residual.result c.from_residual.ensures.1 in
    let n = c.in_err-check_head.ensures in
    rw (r.1, r.2) (search order depth 12)

pub returns : goal.returns
returns c = λ e s q.
    let n = c.in_ok-check_head.ensures in
    let k = c.check_kind.ensures e s q in
    search order depth 12
