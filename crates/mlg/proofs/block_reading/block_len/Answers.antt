use Rattle.std.proofs.Common.{◌+◌, arith}
use Rattle.mlg_rules.proofs.BlockLaws.{len_data, len_mark, len_known, len_unknown}
use Rattle.mlg.proofs.block_reading.block_len.Goals as goal

pub returns-in-0 : goal.returns-in-0
returns-in-0 c =
    let a = c.args in
    len_known a.size a.kind (c.from.result + 5) (omega (arith, c.from.ensures, len_data a.size a.kind c.in-0.is)) (omega arith)

pub returns-in-1 : goal.returns-in-1
returns-in-1 c = let a = c.args in len_known a.size a.kind 54 (omega (arith, len_mark a.size a.kind c.in-1.is)) (omega arith)

pub returns-in_default : goal.returns-in_default
returns-in_default c = len_unknown _ _ (λ z. omega arith) (λ z. omega arith)
