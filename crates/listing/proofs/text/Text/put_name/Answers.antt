use native.Mathlib.Omega.{arith}
use mathlib.Core.Path.{ap}
use Rattle.listing_rules.specs.Text.{printed}
use Rattle.listing_rules.proofs.FieldNames.{name_part, name_short}
use Rattle.listing.proofs.Puts.{puts_as}
use Rattle.listing.proofs.text.Text.put_name.Goals as goal

pub overflow_add-len : goal.overflow_add-len
overflow_add-len c = omega (arith, c.text_len-len.ensures, name_short c.args.field.now)

pub slice_bounds-put_printed-end : goal.slice_bounds-put_printed-end
slice_bounds-put_printed-end c = omega (arith, c.text_len-len.ensures, name_short c.args.field.now)

pub returns : goal.returns
returns c = puts_as _ (ap printed (name_part c.args.field.now _ c.text_len-len.ensures)) c.put_printed.ensures
