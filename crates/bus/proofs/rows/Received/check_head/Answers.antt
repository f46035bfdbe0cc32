use Rattle.std.proofs.lemmas.Result.{err_from_is_err_and}
use Rattle.wire.proofs.Orders.{order}
use Rattle.bus_rules.proofs.IdentLaws.{are_parts, head_is}
use Rattle.bus.proofs.rows.Received.check_head.Goals as goal

pub returns-in_err-check_id : goal.returns-in_err-check_id
returns-in_err-check_id c =
    let r = err_from_is_err_and c.from_residual.result c.from_residual.ensures.1 in
    rw (r.1, r.2, head_is c.args.own c.args.self.frame) (search order depth 12)

pub returns-then-self-gt8 : goal.returns-then-self-gt8
returns-then-self-gt8 c = rw (head_is c.args.own c.args.self.frame) (search order depth 12)

pub returns-then-self-own : goal.returns-then-self-own
returns-then-self-own c =
    let to = (are_parts c.args.self.frame.id c.args.self.parts c.args.self.read).to in
    rw (head_is c.args.own c.args.self.frame, ← to) (search order depth 12)

pub returns : goal.returns
returns c =
    let to = (are_parts c.args.self.frame.id c.args.self.parts c.args.self.read).to in
    rw (head_is c.args.own c.args.self.frame, ← to) (search order depth 12)
