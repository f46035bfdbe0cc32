use Rattle.mlg_rules.proofs.BlockBytes.{data_put}
use Rattle.mlg.proofs.block_writing.put_data.Goals as goal

pub returns : goal.returns
returns c =
    let a = c.args in
    data_put a.counter a.time a.out.now a.bytes.now _ _ c.start_bytes-head.ensures c.sum_of.ensures c.requires
    c.put.ensures c.put-2.ensures c.put-3.ensures
