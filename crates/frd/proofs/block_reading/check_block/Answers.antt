use Rattle.wire.proofs.Orders.{order}
use Rattle.wire.proofs.Parts.{tail_part}
use Rattle.frd_rules.specs.Block.{read_block_number}
use Rattle.frd.proofs.block_reading.check_block.Goals as goal

pub returns-then-file-at : goal.returns-then-file-at
unfolding read_block_number
returns-then-file-at c = search order depth 9

pub returns : goal.returns
unfolding read_block_number
returns c = rw (c.check_rest.ensures, tail_part) (search order depth 9)
