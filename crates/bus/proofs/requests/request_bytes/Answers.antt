use Rattle.std.proofs.Common.{sym, subst, arith}
use Rattle.std.proofs.lemmas.Result.{err_from_is_err_and}
use Rattle.bus_rules.specs.Request.{request_bytes_of, request}
use Rattle.bus_rules.specs.Rows.{ReadAfterWrite}
use Rattle.bus_rules.proofs.RequestLaws.{Holds, zero_holds, wrote_no, wrote_yes}
use Rattle.bus_rules.proofs.RowTheorems.{row_theorems}
use Rattle.bus.proofs.requests.request_bytes.Goals as goal
use Rattle.bus.proofs.requests.request_bytes.Goals.{In_ok-check_request}

-- its bytes can hold the request
holding : (c : In_ok-check_request) → Holds c.args.q
holding c = zero_holds c.args.q (sym c.in_ok-check_request.ensures)

pub returns-in_err-check_request : goal.returns-in_err-check_request
unfolding request_bytes_of
returns-in_err-check_request c =
    let q = c.args.q in
    let r = err_from_is_err_and c.from_residual.result c.from_residual.ensures.1 in
    let e = wrote_no _ (request q.table q.offset q.count) _ c.in_err-check_request.ensures in
    rw (r.1, r.2) (record { value = e; back = subst (ReadAfterWrite q) (sym e) (row_theorems.read_after_write q) })

pub overflow_cast-result : goal.overflow_cast-result
overflow_cast-result c = omega (arith, holding (goal.at.overflow_cast-result c).In_ok-check_request)

pub overflow_add-result : goal.overflow_add-result
overflow_add-result c = let h = holding (goal.at.overflow_add-result c).In_ok-check_request in omega arith

pub returns : goal.returns
unfolding request_bytes_of request
returns c =
    let q = c.args.q in
    let e = wrote_yes _ (request q.table q.offset q.count) (sym c.in_ok-check_request.ensures) in
    record { value = e; back = subst (ReadAfterWrite q) (sym e) (row_theorems.read_after_write q) }
