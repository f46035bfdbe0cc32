use Rattle.std.proofs.Common.{refl, ◌∙◌, add-one, arith, length-set}
use lib.Seq.{paste-zero, paste-suc}
use Rattle.wire.proofs.Puts.{paste_all}
use Rattle.wire.proofs.copy.Goals as goal

pub loop-i-init : goal.loop-i-init
loop-i-init c = (refl, paste-zero c.args.out.now c.args.at c.args.bytes.now)

pub loop-i-preserved : goal.loop-i-preserved
loop-i-preserved c =
    let l = c.loop-i in
    let a = c.args in
    let next = paste-suc a.out.now a.at a.bytes.now l.i 0 (omega arith) c.loop-i-test.true in
    (simp length-set l.invariant.0, rw (add-one, l.invariant.1) next)

pub returns : goal.returns
returns c =
    let l = c.loop-i in
    let a = c.args in
    l.invariant.1 ∙ paste_all a.out.now a.at a.bytes.now l.i (omega arith)
