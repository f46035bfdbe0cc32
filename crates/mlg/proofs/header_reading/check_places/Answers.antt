use Rattle.mlg_rules.specs.Header.{places_number}
use Rattle.wire.proofs.Orders.{order}
use Rattle.mlg.proofs.header_reading.check_places.Goals as goal

pub returns-then-n-end : goal.returns-then-n-end
unfolding places_number
returns-then-n-end c = rw (← c.fields_end-end.ensures) (search order depth 12)

pub returns-then-begin-end : goal.returns-then-begin-end
unfolding places_number
returns-then-begin-end c = rw (← c.fields_end-end.ensures) (search order depth 12)

pub returns-then-n-begin : goal.returns-then-n-begin
unfolding places_number
returns-then-n-begin c = rw (← c.fields_end-end.ensures) (search order depth 12)

pub returns-then-info-eq0 : goal.returns-then-info-eq0
unfolding places_number
returns-then-info-eq0 c = rw (← c.fields_end-end.ensures) (search order depth 12)

pub returns-then-info-end : goal.returns-then-info-end
unfolding places_number
returns-then-info-end c = rw (← c.fields_end-end.ensures) (search order depth 12)

pub returns-then-begin-info : goal.returns-then-begin-info
unfolding places_number
returns-then-begin-info c = rw (← c.fields_end-end.ensures) (search order depth 12)

pub returns : goal.returns
unfolding places_number
returns c = rw (← c.fields_end-end.ensures) (search order depth 12)
