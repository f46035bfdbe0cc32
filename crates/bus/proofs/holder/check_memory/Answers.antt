use Rattle.std.proofs.lemmas.Result.{err_from_is_err_and}
use Rattle.wire.proofs.Orders.{order}
use Rattle.bus_rules.specs.Device.{length_number, memory_number}
use Rattle.bus.proofs.holder.check_memory.Goals as goal

pub returns-in_err-total : goal.returns-in_err-total
unfolding memory_number
returns-in_err-total c =
    let r = err_from_is_err_and c.from_residual.result c.from_residual.ensures.1 in
    let n = c.in_err-total.ensures.number in
    rw (r.1, r.2) (search order depth 12)

pub returns-then-memory-total : goal.returns-then-memory-total
unfolding memory_number length_number
returns-then-memory-total c =
    let n = c.in_ok-total.ensures.number in
    rw (← c.in_ok-total.ensures.total) (search order depth 12)

pub returns : goal.returns
unfolding memory_number length_number
returns c =
    let n = c.in_ok-total.ensures.number in
    rw (← c.in_ok-total.ensures.total) (search order depth 12)
