use mathlib.Core.Path.{ap}
use Rattle.listing_rules.specs.Text.{decimal}
use Rattle.listing.proofs.Puts.{◌then◌, puts_as}
use Rattle.listing.proofs.text.Text.put_start.Goals as goal

pub returns : goal.returns
returns c =
    c.put_decimal.ensures
    then c.put_bytes.ensures
    then puts_as _ (ap decimal c.from.ensures) c.put_decimal-2.ensures
    then c.put_bytes-2.ensures
    then puts_as _ (ap decimal c.from-2.ensures) c.put_decimal-3.ensures
