use Rattle.wire.proofs.Orders.{order}
use Rattle.mlg_rules.proofs.LayoutLaws.{field_of}
use Rattle.mlg_rules.specs.Raw.{value_field_number}
use Rattle.mlg_values.proofs.check_field.Goals as goal

pub returns-then-field-layout_of-clause-number : goal.returns-then-field-layout_of-clause-number
unfolding value_field_number
returns-then-field-layout_of-clause-number c = rw (← field_of _ _ c.layout_of.ensures) (search order depth 12)

pub returns-clause-number : goal.returns-clause-number
unfolding value_field_number
returns-clause-number c =
    let number = c.checked_kind.ensures.number in
    rw (← field_of _ _ c.layout_of.ensures, ← c.byte_at.ensures, ← c.byte_at-2.ensures) (search order depth 12)
