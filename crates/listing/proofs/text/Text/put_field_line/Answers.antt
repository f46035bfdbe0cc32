use Rattle.listing_rules.specs.Lines.{field_line}
use Rattle.listing.proofs.Puts.{◌then◌}
use Rattle.listing.proofs.text.Text.put_field_line.Goals as goal

pub returns : goal.returns
unfolding field_line
returns c =
    rw (← c.from.ensures, ← c.from-2.ensures)
    (c.put_bytes.ensures
    then c.put_decimal.ensures
    then c.put_bytes-2.ensures
    then c.put_decimal-2.ensures
    then c.put_bytes-3.ensures
    then c.put_name.ensures
    then c.put_bytes-4.ensures)
