use Rattle.std.proofs.Common.{◌≡◌, ◌≤◌, sym, ap, arith, length-take-le}
use Rattle.bus_rules.specs.declared.RequestRead.{RequestRead}
use Rattle.bus_rules.specs.Holder.{byte_of, read_at, request_at}
use Rattle.bus_rules.proofs.RequestLaws.{read_request_holds}
use Rattle.bus.proofs.holder.Route.answer_query.Goals as goal
use Rattle.bus.proofs.holder.Route.answer_query.Goals.{After-read_request-q}

-- the count that the query asks for, at most five bytes
count : (c : After-read_request-q) → c.read_request-q.result.request.count ≡ (request_at c.args.f 1).count
unfolding request_at read_at byte_of
count c = ap (λ (q : RequestRead). q.request.count) c.read_request-q.ensures.value

few : (c : After-read_request-q) → c.read_request-q.result.request.count ≤ 5
few c = omega (arith, c.requires, count c)

pub slice_bounds-bytes-end : goal.slice_bounds-bytes-end
slice_bounds-bytes-end c = omega (arith, few c.before.before)

pub slice_bounds-reply-end : goal.slice_bounds-reply-end
slice_bounds-reply-end c = sym (length-take-le _ _ (omega (arith, few c.before.before.before)))

pub reply-requires : goal.reply-requires
reply-requires c =
    let q = c.before.before.before in
    let h = read_request_holds _ c.read_request-q.ensures.back in
    let l = length-take-le c.read_request-q.result.request.count c.protocol_of-bytes.result (omega (arith, few q)) in
    (h.table, h.offset, omega (arith, l, few q))

pub returns : goal.returns
unfolding request_at read_at byte_of
returns c =
    let n = count (goal.at.returns c).After-read_request-q in
    rw (c.read_request-q.ensures.value, n, c.protocol_of-bytes.ensures) at c.reply.ensures
