use Rattle.std.proofs.Common.{◌≡◌, ap, arith}
use Rattle.bus_rules.specs.declared.RequestRead.{RequestRead}
use Rattle.bus_rules.specs.Holder.{byte_of, read_at, request_at}
use Rattle.bus_rules.proofs.FrameLaws.{part_is, part_length}
use Rattle.bus_rules.proofs.RequestLaws.{read_request_holds}
use Rattle.bus.proofs.holder.Route.answer_request.Goals as goal
use Rattle.bus.proofs.holder.Route.answer_request.Goals.{After-read_request-q}

-- the count that the request asks for
count : (c : After-read_request-q) → c.read_request-q.result.request.count ≡ (request_at c.args.f 0).count
unfolding request_at read_at byte_of
count c = ap (λ (q : RequestRead). q.request.count) c.read_request-q.ensures.value

pub slice_bounds-reply-end : goal.slice_bounds-reply-end
slice_bounds-reply-end c = omega (arith, c.requires.1, count (goal.at.slice_bounds-reply-end c).After-read_request-q)

pub reply-requires : goal.reply-requires
reply-requires c =
    let q = (goal.at.reply-requires c).After-read_request-q in
    let l = part_length c.args.memory.now c.args.at c.read_request-q.result.request.count (omega (arith, c.requires.1, count q)) in
    let h = read_request_holds _ c.read_request-q.ensures.back in
    (h.table, h.offset, rw part_is (omega (arith, l, c.requires.0, count q)))

pub returns : goal.returns
unfolding request_at read_at byte_of
returns c =
    let n = count (goal.at.returns c).After-read_request-q in
    rw (part_is, c.read_request-q.ensures.value, n) at c.reply.ensures
