use Rattle.std.proofs.Common.{◌<◌, IfSome}
use Rattle.cases.proofs.lines.from_hex.Given as goal

abbrev pub invariant-loop-b : goal.invariant-loop-b
invariant-loop-b l = IfSome l.high (λ d. d < 16)
