use Prim.Native.Nat.{◌+◌, ◌-◌}
use mathlib.Core.Path.{◌≡◌}
use Rattle.bridge.proofs.MovedSlots.{aged_on}
use Rattle.bridge.proofs.turning.aged_bridge.Given as goal

abbrev pub invariant-loop-i : goal.invariant-loop-i
invariant-loop-i l = aged_on 4 l.start l.initial.slots ≡ aged_on (4 - l.i) (l.start + l.i) l.slots
