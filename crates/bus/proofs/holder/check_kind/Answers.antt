use Rattle.std.proofs.Common.{sym, ◌∙◌, arith}
use Rattle.bus_rules.specs.Request.{request_of, read_request_of}
use Rattle.bus_rules.specs.Holder.{byte_of, read_at, request_at}
use Rattle.bus_rules.proofs.IdentLaws.{AreParts, are_parts}
use Rattle.bus_rules.proofs.Cases.{command_case, request_case, burn_case, query_case, other_case}
use Rattle.bus.proofs.holder.check_kind.Goals as goal
use Rattle.bus.proofs.holder.check_kind.Goals.{Start}

parts : (s : Start) → AreParts s.args.x.frame.id s.args.x.parts
parts s = are_parts s.args.x.frame.id s.args.x.parts s.args.x.read

pub returns-in-7 : goal.returns-in-7
unfolding byte_of read_at request_at read_request_of request_of
returns-in-7 c =
    let p = parts (goal.at.returns-in-7 c).Start in
    λ e s r. c.check_query.ensures ∙ sym (query_case e _ (sym p.kind ∙ c.in-7.is))

pub returns-in-0 : goal.returns-in-0
returns-in-0 c = λ e s r.
    let p = parts (goal.at.returns-in-0 c).Start in
    (rw (p.offset, s, r) at c.check_command.ensures) ∙ sym (command_case e _ (sym p.kind ∙ c.in-0.is))

pub returns-in-1 : goal.returns-in-1
unfolding byte_of read_at request_at read_request_of request_of
returns-in-1 c = λ e s r.
    let p = parts (goal.at.returns-in-1 c).Start in
    (rw (p.offset, s, r) at c.check_request.ensures) ∙ sym (request_case e _ (sym p.kind ∙ c.in-1.is))

pub returns-in-4 : goal.returns-in-4
returns-in-4 c = λ e s r.
    let p = parts (goal.at.returns-in-4 c).Start in
    (rw (s, r) at c.check_burn.ensures) ∙ sym (burn_case e _ (sym p.kind ∙ c.in-4.is))

pub returns-in_default : goal.returns-in_default
returns-in_default c = λ e s r.
    let k = (parts (goal.at.returns-in_default c).Start).kind in
    sym (other_case e _ (λ z. omega (arith, k, z)) (λ z. omega (arith, k, z)) (λ z. omega (arith, k, z)) (λ z. omega (arith, k, z)))
