use Rattle.wire.proofs.Orders.{order}
use Rattle.mlg_rules.specs.Writing.{write_mark_number}
use Rattle.mlg.proofs.block_writing.check_mark.Goals as goal

pub returns-then-text-gt49 : goal.returns-then-text-gt49
unfolding write_mark_number
returns-then-text-gt49 c = search order depth 9

pub returns-then-text_len-text : goal.returns-then-text_len-text
unfolding write_mark_number
returns-then-text_len-text c = rw (← c.text_len.ensures) (search order depth 9)

pub returns-then-room-lt54 : goal.returns-then-room-lt54
unfolding write_mark_number
returns-then-room-lt54 c = rw (← c.text_len.ensures) (search order depth 9)

pub returns : goal.returns
unfolding write_mark_number
returns c = rw (← c.text_len.ensures) (search order depth 9)
