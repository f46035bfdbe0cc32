use Rattle.std.proofs.Common.{◌≡◌, ◌≤◌, drop}
use Rattle.wire.specs.Text.{zeros}
use Rattle.mlg.proofs.fields.zero_before.Given as goal

abbrev pub invariant-loop-i : goal.invariant-loop-i
invariant-loop-i l = (zeros (drop l.i l.s) ≡ zeros (drop l.end l.s)) × (l.i ≤ l.end)
