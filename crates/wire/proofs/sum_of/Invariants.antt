use Rattle.std.proofs.Common.{◌≡◌, ◌+◌, ◌%◌, drop}
use Rattle.wire.specs.Sum.{total}
use Rattle.wire.proofs.sum_of.Given as goal

abbrev pub invariant-loop-b : goal.invariant-loop-b
invariant-loop-b l = (l.t + total (drop l.b-index l.s)) % 256 ≡ total l.s % 256
