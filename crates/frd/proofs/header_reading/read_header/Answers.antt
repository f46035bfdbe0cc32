use mathlib.Core.Path.{sym}
use Rattle.wire.specs.declared.refusal.Refusal.TheVariants as R
use Rattle.wire.proofs.Orders.{order}
use Rattle.frd_rules.specs.Header.{read_header_number}
use Rattle.frd_rules.proofs.HeaderLaws.{header_refused, header_held}
use Rattle.frd.proofs.header_reading.read_header.Goals as goal

pub returns-then-file-lt81 : goal.returns-then-file-lt81
unfolding read_header_number
returns-then-file-lt81 c = header_refused _ R.CutShort (search order depth 12)

pub returns-then-be48-ne77319142113280 : goal.returns-then-be48-ne77319142113280
unfolding read_header_number
returns-then-be48-ne77319142113280 c = header_refused _ R.WrongName (rw (← c.be48.ensures) (search order depth 12))

pub returns-then-h-ne1 : goal.returns-then-h-ne1
unfolding read_header_number
returns-then-h-ne1 c = header_refused _ R.Version (rw (← c.be48.ensures, ← c.numbers-h.ensures) (search order depth 12))

pub returns-then-h-ne81 : goal.returns-then-h-ne81
unfolding read_header_number
returns-then-h-ne81 c = header_refused _ R.Disagree (rw (← c.be48.ensures, ← c.numbers-h.ensures) (search order depth 12))

pub returns : goal.returns
unfolding read_header_number
returns c = header_held _ _ (sym (rw (← c.be48.ensures, ← c.numbers-h.ensures) (search order depth 12))) c.numbers-h.ensures
