use Rattle.std.proofs.Common.{◌≡◌, refl, sym, ◌∙◌, arith}
use Rattle.std.proofs.lemmas.Result.{err_from_is_err_and}
use Rattle.wire.proofs.Orders.{else_none, else_refused}
use Rattle.mlg_rules.specs.Fields.{field_number}
use Rattle.mlg_rules.proofs.LayoutLaws.{field_least}
use Rattle.mlg.proofs.fields.Area.check_field.Goals as goal

pub bounds-d-0 : goal.bounds-d-0
bounds-d-0 c = omega (arith, field_least c.args.version)

pub bounds-d-51 : goal.bounds-d-51
bounds-d-51 c = omega (arith, field_least c.args.version)

pub returns-in_err-check_type-clause-number : goal.returns-in_err-check_type-clause-number
unfolding field_number
returns-in_err-check_type-clause-number c =
    let r = err_from_is_err_and c.from_residual.result c.from_residual.ensures.1 in
    λ area told. rw (r.1, r.2) (else_refused _ _ _ c.in_err-check_type.ensures)

pub returns-in_err-check_texts-clause-number : goal.returns-in_err-check_texts-clause-number
unfolding field_number
returns-in_err-check_texts-clause-number c =
    let r = err_from_is_err_and c.from_residual-in_err-check_texts.result c.from_residual-in_err-check_texts.ensures.1 in
    λ area told. rw (r.1, r.2) (else_none _ _ _ _ c.in_ok-check_type.ensures refl (else_refused _ _ _ c.in_err-check_texts.ensures))

pub check_names-requires : goal.check_names-requires
check_names-requires c = (omega (arith, field_least c.args.version), sym c.in_ok-check_type.ensures)

pub returns-in_err-check_names-clause-number : goal.returns-in_err-check_names-clause-number
unfolding field_number
returns-in_err-check_names-clause-number c =
    let r = err_from_is_err_and c.from_residual-in_err-check_names.result c.from_residual-in_err-check_names.ensures.1 in
    λ area told. rw (r.1, r.2)
    (else_none _ _ _ _ c.in_ok-check_type.ensures refl
    (else_none _ _ _ _ c.in_ok-check_texts.ensures refl (c.in_err-check_names.ensures area told)))

pub bounds-d-0-2 : goal.bounds-d-0-2
bounds-d-0-2 c = omega (arith, field_least c.args.version)

pub returns : goal.returns
unfolding field_number
returns c =
    record {
      number = λ area told.
          else_none _ _ _ _ c.in_ok-check_type.ensures refl
          (else_none _ _ _ _ c.in_ok-check_texts.ensures refl (c.in_ok-check_names.ensures area told));
      size = λ n e. let q : c.from.result ≡ n = cc in sym q ∙ c.from.ensures ∙ c.size_of.ensures;
    }
