use Prim.Native.Nat.{◌-◌, ◌≤◌}
use mathlib.Core.Path.{◌≡◌}
use lib.ListN.{length}
use Rattle.frd_rules.specs.Log.{log_of, tally_of}
use Rattle.frd_rules.proofs.TallyLaws.{tally_from}
use Rattle.frd.proofs.block_counting.count_from.Given as goal

abbrev pub invariant-loop-at : goal.invariant-loop-at
invariant-loop-at l = (l.count ≤ l.at) × (tally_from l.size l.count l.file l.at ≡ tally_of (log_of l.size l.file l.begin))

abbrev pub decreases-loop-at : goal.decreases-loop-at
decreases-loop-at l = length l.file - l.at
