use Rattle.mlg_rules.specs.Block.{block_len}
use Rattle.mlg_rules.specs.Log.{length_of}
use Rattle.mlg_rules.proofs.TallyLaws.{no_block, some_block, data_length, nothing}
use Rattle.mlg.proofs.block_reading.length_of.Goals as goal

pub returns-in_default : goal.returns-in_default
returns-in_default c = nothing _ _ (no_block _ c.in_default.not-Data c.in_default.not-Mark)

pub returns-in_default-b : goal.returns-in_default-b
returns-in_default-b c = rw c.from.ensures (data_length _ _ (some_block _ c.in-Data.is) c.in_default-b.not-Mark)

pub returns : goal.returns
unfolding length_of block_len
returns c = rw c.in-Mark.is
