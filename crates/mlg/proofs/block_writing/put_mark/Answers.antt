use native.Mathlib.Omega.{arith}
use Rattle.mlg_rules.proofs.BlockBytes.{mark_put}
use Rattle.mlg.proofs.block_writing.put_mark.Goals as goal

pub padded_text-pad-requires : goal.padded_text-pad-requires
padded_text-pad-requires c = omega (arith, c.requires.0)

pub returns : goal.returns
returns c =
    let a = c.args in
    mark_put a.counter a.time a.out.now a.text.now _ _ c.start_bytes-head.ensures c.padded_text-pad.ensures c.requires.0 c.requires.1
    c.put.ensures c.put-2.ensures
