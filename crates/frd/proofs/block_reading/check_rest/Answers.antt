use Rattle.wire.proofs.Orders.{order}
use Rattle.frd_rules.specs.Block.{rest_number}
use Rattle.frd_rules.proofs.BlockLaws.{len_none, len_some}
use Rattle.frd.proofs.block_reading.check_rest.Goals as goal

pub returns-then-is_empty : goal.returns-then-is_empty
unfolding rest_number
returns-then-is_empty c = search order depth 9

pub returns-in_default : goal.returns-in_default
unfolding rest_number
returns-in_default c = let k = len_none _ c.in_default.ensures in search order depth 9

pub returns-then-t-len : goal.returns-then-t-len
unfolding rest_number
returns-then-t-len c = let k = len_some _ _ c.in-Some.ensures in rw k.0 (search order depth 9)

pub returns : goal.returns
unfolding rest_number
returns c = let k = len_some _ _ c.in-Some.ensures in rw k.0 (search order depth 9)
