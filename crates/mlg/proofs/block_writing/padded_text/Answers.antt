use Rattle.mlg_rules.proofs.BlockBytes.{pad_put}
use Rattle.mlg.proofs.block_writing.padded_text.Goals as goal

pub returns : goal.returns
returns c = pad_put c.args.text.now c.requires c.put.ensures
