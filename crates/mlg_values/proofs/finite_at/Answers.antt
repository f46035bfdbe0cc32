use Rattle.std.proofs.Common.{refl, sym, ◌∙◌}
use Rattle.wire.proofs.Orders.{if_yes, if_no, not_yes, not_no}
use Rattle.mlg_rules.proofs.Finite.{no_nan}
use Rattle.mlg_values.proofs.finite_at.Goals as goal

pub returns-then-not-is_finite-clause-number : goal.returns-then-not-is_finite-clause-number
returns-then-not-is_finite-clause-number c =
    rw (← c.be32-bits.ensures) (if_yes 30 _ _ (not_yes _ (sym c.is_finite.ensures ∙ c.if-not-is_finite.true)))

pub float_from_bits-result : goal.float_from_bits-result
float_from_bits-result c = no_nan _ (sym c.is_finite.ensures ∙ c.if-not-is_finite.false)

pub returns-clause-number : goal.returns-clause-number
returns-clause-number c =
    rw (← c.be32-bits.ensures) (if_no 30 _ _ 0 (not_no _ (sym c.is_finite.ensures ∙ c.if-not-is_finite.false)) refl)
