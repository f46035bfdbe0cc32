use Rattle.wire.proofs.Orders.{order}
use Rattle.mlg_rules.specs.Header.{name_number}
use Rattle.mlg_rules.proofs.LayoutLaws.{header_of}
use Rattle.mlg.proofs.header_reading.check_name.Goals as goal

pub returns-then-file-layout_of : goal.returns-then-file-layout_of
unfolding name_number
returns-then-file-layout_of c = rw (← header_of _ _ c.layout_of.ensures) (search order depth 9)

pub returns-then-be48-ne84990260692736 : goal.returns-then-be48-ne84990260692736
unfolding name_number
returns-then-be48-ne84990260692736 c = rw (← header_of _ _ c.layout_of.ensures, ← c.be48.ensures) (search order depth 9)

pub returns-then-not-is_served : goal.returns-then-not-is_served
unfolding name_number
returns-then-not-is_served c = rw (← header_of _ _ c.layout_of.ensures, ← c.be48.ensures, ← c.be16.ensures, ← c.is_served.ensures) (search order depth 12)

pub returns : goal.returns
unfolding name_number
returns c = rw (← header_of _ _ c.layout_of.ensures, ← c.be48.ensures, ← c.be16.ensures, ← c.is_served.ensures) (search order depth 12)
