use Rattle.std.proofs.Common.{◌≡◌, false, drop}
use Rattle.wire.specs.Text.{zeros}
use Rattle.mlg.proofs.fields.has_zero.Given as goal

abbrev pub invariant-loop-b : goal.invariant-loop-b
invariant-loop-b l = l.found ≡ false → zeros l.s ≡ zeros (drop l.b-index l.s)
