use Rattle.std.proofs.Common.{◌∙◌}
use Rattle.std.proofs.lemmas.Result.{err_from_is_err_and}
use Rattle.wire.proofs.Orders.{order}
use Rattle.mlg_rules.specs.Raw.{value_number}
use Rattle.mlg_values.proofs.check_value.Goals as goal

pub returns-in_err-kind-clause-number : goal.returns-in_err-kind-clause-number
unfolding value_number
returns-in_err-kind-clause-number c =
    let r = err_from_is_err_and c.from_residual.result c.from_residual.ensures.1 in
    let e = c.in_err-kind.ensures.number in
    rw (r.1, r.2) (search order depth 12)

pub returns-then-raw-from-clause-number : goal.returns-then-raw-from-clause-number
unfolding value_number
returns-then-raw-from-clause-number c =
    let size = c.from.ensures ∙ c.size_of.ensures in
    rw (← c.byte_at.ensures, ← size) (search order depth 12)

pub returns-clause-number : goal.returns-clause-number
unfolding value_number
returns-clause-number c =
    let size = c.from.ensures ∙ c.size_of.ensures in
    rw (← c.byte_at.ensures, ← size) (search order depth 12)
