use Rattle.wire.proofs.Orders.{order}
use Rattle.mlg_rules.specs.Writing.{write_data_number}
use Rattle.mlg.proofs.block_writing.check_data.Goals as goal

pub returns-then-bytes-from : goal.returns-then-bytes-from
unfolding write_data_number
returns-then-bytes-from c = rw (← c.from.ensures) (search order depth 9)

pub returns-then-room-bytes : goal.returns-then-room-bytes
unfolding write_data_number
returns-then-room-bytes c = rw (← c.from.ensures) (search order depth 9)

pub returns : goal.returns
unfolding write_data_number
returns c = rw (← c.from.ensures) (search order depth 9)
