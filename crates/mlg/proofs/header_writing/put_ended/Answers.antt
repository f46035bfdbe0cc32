use native.Mathlib.Omega.{arith}
use Rattle.mlg_rules.proofs.AreaLaws.{ended_length}
use Rattle.mlg_rules.proofs.HeaderBytes.{put_empty, put_zero}
use Rattle.mlg.proofs.header_writing.put_ended.Goals as goal

pub overflow_add-at : goal.overflow_add-at
overflow_add-at c =
    let a = c.args in
    let if1 = c.if-len-ne0 in
    omega (arith, ended_length a.info.now if1.true)

pub returns-then-len-ne0 : goal.returns-then-len-ne0
returns-then-len-ne0 c =
    let a = c.args in
    let pre = c.requires in
    let if1 = c.if-len-ne0 in
    let put = c.put in
    put_zero a.out.now a.at a.info.now if1.true pre put.ensures c.put-then-len-ne0.ensures

pub returns-else-len-ne0 : goal.returns-else-len-ne0
returns-else-len-ne0 c =
    let a = c.args in
    let pre = c.requires in
    put_empty a.out.now a.at a.info.now c.if-len-ne0.false pre
