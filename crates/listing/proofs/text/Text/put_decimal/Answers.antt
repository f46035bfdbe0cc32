use mathlib.Core.Path.{◌∙◌}
use Rattle.listing.proofs.Decimal.{decimal_is}
use Rattle.listing.proofs.Puts.{puts_as}
use Rattle.listing.proofs.text.Text.put_decimal.Goals as goal

pub returns : goal.returns
returns c = puts_as _ (c.decimal-len.ensures.digits ∙ decimal_is _ _ c.decimal-len.ensures.len) c.put_bytes.ensures
