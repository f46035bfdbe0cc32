use Rattle.std.proofs.Common.{sym, ◌∙◌, refl}
use Rattle.wire.specs.declared.refusal.Refusal.TheVariants as R
use Rattle.wire.proofs.RefusalLaws.{refused, held}
use Rattle.mlg_rules.specs.Shown.{apply_of, zero_float}
use Rattle.mlg_rules.proofs.Finite.{finite_is}
use Rattle.mlg_rules.proofs.ShownLaws.{by_sum, by_product, all_finite}
use Rattle.mlg_values.proofs.apply.Goals as goal

pub returns-then-not-is_finite : goal.returns-then-not-is_finite
unfolding apply_of
returns-then-not-is_finite c =
    refused zero_float _ _ R.NotShown (by_sum _ _ (sym (finite_is _) ∙ sym c.is_finite.ensures.value ∙ c.if-not-is_finite.true))

pub returns-then-not-is_finite-2 : goal.returns-then-not-is_finite-2
unfolding apply_of
returns-then-not-is_finite-2 c =
    refused zero_float _ _ R.NotShown (by_product _ _ (sym (finite_is _) ∙ sym c.is_finite-2.ensures.value ∙ c.if-not-is_finite-2.true))

pub returns : goal.returns
unfolding apply_of
returns c =
    let sum = sym (finite_is _) ∙ sym c.is_finite.ensures.value ∙ c.if-not-is_finite.false in
    let product = sym (finite_is _) ∙ sym c.is_finite-2.ensures.value ∙ c.if-not-is_finite-2.false in
    held zero_float _ _ _ (sym (all_finite _ _ sum product)) refl
