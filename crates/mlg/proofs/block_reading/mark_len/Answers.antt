use Rattle.mlg.proofs.block_reading.mark_len.Goals as goal

pub returns : goal.returns
returns c = c.text_len.ensures
