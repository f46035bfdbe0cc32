use mathlib.Core.Path.{refl, sym, ◌∙◌}
use Rattle.frd_rules.specs.Block.{length_of}
use Rattle.frd_rules.proofs.BlockLaws.{data_len, time_len}
use Rattle.frd_rules.proofs.TallyLaws.{no_block, some_block, data_length, nothing}
use Rattle.frd.proofs.block_reading.length_of.Goals as goal

pub returns-in_default : goal.returns-in_default
returns-in_default c = nothing _ _ (no_block _ c.in_default.not-Data c.in_default.not-Time)

pub returns-in_default-b : goal.returns-in_default-b
returns-in_default-b c =
    rw c.from.ensures
    (sym (data_len _ 1 refl) ∙ data_length _ _ (some_block _ c.in-Data.is) c.in_default-b.not-Time)

pub returns : goal.returns
unfolding length_of
returns c = rw c.in-Time.is (sym (time_len _ 2 refl))
