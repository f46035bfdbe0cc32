use Rattle.mlg_rules.specs.Layout.{layout_of}
use Rattle.mlg_rules.specs.Writing.{number_bytes}
use Rattle.mlg.proofs.header_writing.number_bytes.Goals as goal

pub returns : goal.returns
unfolding number_bytes layout_of
returns c =
    let two_bytes = c.two_bytes-v in
    let four_bytes = c.four_bytes-t in
    let four-bytes2 = c.four_bytes-i in
    rw (
      two_bytes.ensures,
      four_bytes.ensures,
      four-bytes2.ensures,
      c.four_bytes-b.ensures,
      c.two_bytes-s.ensures,
      c.two_bytes-n.ensures,
    )
