use Rattle.std.proofs.Common.{arith}
use Rattle.wire.specs.BigEndian.{be_from}
use Rattle.wire.proofs.Parts.{rest_of}
use Rattle.wire.proofs.Numbers.{more_bytes}
use Rattle.wire.proofs.be_of.Goals as goal

pub loop-b-preserved : goal.loop-b-preserved
loop-b-preserved c =
    let l = c.loop-b in
    let s = c.args.s.now in
    let e = rest_of (be_from l.a) s l.b-index (omega arith) in
    let byte = c.type_inv.s l.b-index in
    (more_bytes l.a c.from.result l.b-index l.invariant.0 (omega (arith, byte)), (let k = l.invariant.1 in cc))
