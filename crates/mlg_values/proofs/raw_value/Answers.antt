use Rattle.std.proofs.Common.{ℕ, refl, sym, ◌∙◌, ap, pos}
use Rattle.std.proofs.lemmas.Result.{err_from_is_err_and}
use mir.Syntax.{w64}
use mir.ValLaws.{to_z-of_z}
use Rattle.wire.proofs.RefusalLaws.{refused, held}
use Rattle.mlg_rules.specs.Types.{size_of}
use Rattle.mlg_rules.specs.Field.{type_of}
use Rattle.mlg_rules.specs.Raw.{raw_of, raw_value_of}
use Rattle.mlg_rules.proofs.RawLaws.{sized}
use Rattle.mlg_values.proofs.raw_value.Goals as goal

pub returns-in_err-kind : goal.returns-in_err-kind
unfolding raw_value_of
returns-in_err-kind c =
    let a = c.args in
    let r = err_from_is_err_and c.from_residual.result c.from_residual.ensures.1 in
    rw (r.1, r.2) (refused (pos 0) (raw_of (type_of a.field.now) a.raw.now) _ _ c.in_err-kind.ensures.number)

pub raw_of-requires : goal.raw_of-requires
raw_of-requires c =
    sized 2 _ _ (sym c.in_ok-kind.ensures.number) ∙ sym (ap size_of (c.in_ok-kind.ensures.kind _ refl))

pub returns : goal.returns
unfolding raw_value_of
returns c =
    let a = c.args in
    held (pos 0) (raw_of (type_of a.field.now) a.raw.now) _ _ (sym c.in_ok-kind.ensures.number)
    (to_z-of_z w64 _ (record { sfits = c.raw_of.type_inv }) ∙ c.raw_of.ensures ∙ ap (λ (t : ℕ). raw_of t a.raw.now) (c.in_ok-kind.ensures.kind _ refl))
