use Rattle.mlg_rules.specs.Writing.{start_bytes}
use Rattle.mlg.proofs.block_writing.start_bytes.Goals as goal

pub returns : goal.returns
unfolding start_bytes
returns c = rw c.two_bytes-t.ensures
