use Rattle.wire.proofs.Orders.{order}
use Rattle.mlg_rules.specs.Block.{last_of}
use Rattle.mlg.proofs.block_reading.check_text.Goals as goal

pub returns-then-mark_len-ge50 : goal.returns-then-mark_len-ge50
unfolding last_of
returns-then-mark_len-ge50 c = rw (← c.mark_len.ensures) (search order depth 9)

pub returns : goal.returns
unfolding last_of
returns c = rw (← c.mark_len.ensures) (search order depth 9)
