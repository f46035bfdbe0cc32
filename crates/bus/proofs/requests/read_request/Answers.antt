use Rattle.std.proofs.Common.{sym, subst, rules}
use Rattle.bus_rules.specs.Request.{request_of, clear_of, read_request_of}
use Rattle.bus_rules.specs.Rows.{WriteAfterRead}
use Rattle.bus_rules.proofs.RequestLaws.{mark_is}
use Rattle.bus_rules.proofs.RowTheorems.{row_theorems}
use Rattle.bus.proofs.requests.read_request.Goals as goal

pub returns-clause-value : goal.returns-clause-value
unfolding read_request_of request_of clear_of
returns-clause-value c = rw (c.from.ensures, c.from-2.ensures, mark_is _)

pub returns-clause-back : goal.returns-clause-back
returns-clause-back c =
    let a = c.args in
    subst (WriteAfterRead a.a a.b a.c) (sym (returns-clause-value c)) (row_theorems.write_after_read a.a a.b a.c (search rules) (search rules))
