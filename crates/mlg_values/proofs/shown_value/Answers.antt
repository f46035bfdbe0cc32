use Rattle.std.proofs.Common.{ℕ, refl, sym, ap, ◌∙◌}
use Rattle.wire.specs.Answer.{result_of}
use Rattle.std.proofs.lemmas.Result.{err_from_is_err_and}
use Rattle.wire.proofs.Orders.{else_refused}
use Rattle.wire.proofs.RefusalLaws.{refused, code_ne0}
use Rattle.mlg_rules.specs.Types.{size_of}
use Rattle.mlg_rules.specs.Shown.{shown_value_of, shown_number, shown_of, zero_float, scaling_in, shows}
use Rattle.mlg_rules.proofs.RawLaws.{sized}
use Rattle.mlg_rules.proofs.ShownLaws.{parts_stand, no_scaling, by_raw, applied_number, shown_applied}
use Rattle.mlg_values.proofs.shown_value.Goals as goal

pub returns-in_err-kind : goal.returns-in_err-kind
unfolding shown_value_of shown_number
returns-in_err-kind c =
    let a = c.args in
    let r = err_from_is_err_and c.from_residual.result c.from_residual.ensures.1 in
    rw (r.1, r.2) (refused zero_float (shown_of a.field.now a.raw.now) _ _ (else_refused _ _ _ c.in_err-kind.ensures.number))

pub scaling_in-requires : goal.scaling_in-requires
scaling_in-requires c = c.in_ok-kind.ensures.kind _ refl

pub returns-in_err-scaling : goal.returns-in_err-scaling
unfolding shown_value_of
returns-in_err-scaling c =
    let a = c.args in
    let r = err_from_is_err_and c.from_residual-in_err-scaling.result c.from_residual-in_err-scaling.ensures.1 in
    let n = no_scaling 2 a.field.now a.raw.now (sym c.in_ok-kind.ensures.number) _ c.in_err-scaling.ensures.number (code_ne0 _) in
    rw (r.1, r.2) (refused zero_float (shown_of a.field.now a.raw.now) _ _ n)

pub raw_float-requires : goal.raw_float-requires
raw_float-requires c =
    let kind = c.in_ok-kind.ensures.kind _ refl in
    (sized 2 _ _ (sym c.in_ok-kind.ensures.number) ∙ sym (ap size_of kind), ap shows kind ∙ (parts_stand _ (sym c.in_ok-scaling.ensures.number)).0)

pub returns-in_err-x : goal.returns-in_err-x
unfolding shown_value_of
returns-in_err-x c =
    let a = c.args in
    let d = a.field.now in
    let kind = c.in_ok-kind.ensures.kind _ refl in
    let r = err_from_is_err_and c.from_residual-in_err-x.result c.from_residual-in_err-x.ensures.1 in
    let e = c.in_err-x.ensures.number _ refl in
    let shown = (parts_stand d (sym c.in_ok-scaling.ensures.number)).0 in
    let n = e.0 ∙ by_raw (scaling_in d) _ (rw kind at e.1) ∙ applied_number 2 d a.raw.now (sym c.in_ok-kind.ensures.number) shown in
    rw (r.1, r.2) (refused zero_float (shown_of d a.raw.now) _ _ n)

pub returns : goal.returns
unfolding shown_value_of
returns c =
    let a = c.args in
    let d = a.field.now in
    let stands = sym c.in_ok-kind.ensures.number in
    let shown = (parts_stand d (sym c.in_ok-scaling.ensures.number)).0 in
    let scaling = c.in_ok-scaling.ensures.value _ refl in
    let x = rw (c.in_ok-kind.ensures.kind _ refl) at (c.in_ok-x.ensures.value _ refl) in
    let e = rw (scaling, x) at c.apply.ensures in
    let number = ap (λ (n : ℕ). result_of zero_float n (shown_of d a.raw.now)) (applied_number 2 d a.raw.now stands shown) in
    (e.0 ∙ shown_applied 2 d a.raw.now stands shown, e.1 ∙ number)
