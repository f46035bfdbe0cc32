use Rattle.wire.proofs.Texts.{first_zero}
use Rattle.wire.proofs.text_len.Goals as goal

pub returns : goal.returns
returns c = let k = first_zero c.args.s.now in cc
