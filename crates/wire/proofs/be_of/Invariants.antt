use Rattle.std.proofs.Common.{◌≡◌, ◌*◌, ◌^◌, ◌<◌, drop}
use Rattle.wire.specs.BigEndian.{be_from}
use Rattle.wire.proofs.be_of.Given as goal

abbrev pub invariant-loop-b : goal.invariant-loop-b
invariant-loop-b l = (l.a < 2 ^ (8 * l.b-index)) × (be_from l.a (drop l.b-index l.s) ≡ be_from 0 l.s)
