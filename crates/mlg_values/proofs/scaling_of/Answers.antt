use Rattle.std.proofs.Common.{refl}
use Rattle.std.proofs.lemmas.Result.{err_from_is_err_and}
use Rattle.wire.proofs.Orders.{else_none, else_refused}
use Rattle.wire.proofs.RefusalLaws.{refused}
use Rattle.mlg_rules.specs.Shown.{scaling_of, scaling_number, scaling_in, zero_scaling}
use Rattle.mlg_rules.proofs.Told.{told}
use Rattle.mlg_values.proofs.scaling_of.Goals as goal

pub returns-in_err-kind : goal.returns-in_err-kind
unfolding scaling_of scaling_number
returns-in_err-kind c =
    let r = err_from_is_err_and c.from_residual.result c.from_residual.ensures.1 in
    rw (r.1, r.2) (refused zero_scaling (scaling_in c.args.field.now) _ _ (else_refused _ _ _ c.in_err-kind.ensures.number))

pub scaling_in-requires : goal.scaling_in-requires
scaling_in-requires c = c.in_ok-kind.ensures.kind _ refl

pub returns : goal.returns
unfolding scaling_of scaling_number
returns c =
    told zero_scaling (scaling_in c.args.field.now) _ _
    (else_none _ _ _ _ c.in_ok-kind.ensures.number refl c.scaling_in.ensures.number) c.scaling_in.ensures.value
