use Rattle.std.proofs.Common.{◌≡◌, ◌-◌, ◌≤◌, length}
use Rattle.mlg_rules.specs.Log.{log_of, tally_of}
use Rattle.mlg_rules.proofs.TallyLaws.{tally_from}
use Rattle.mlg.proofs.block_counting.count_from.Given as goal

abbrev pub invariant-loop-b : goal.invariant-loop-b
invariant-loop-b l =
    (l.count ≤ length l.file) × (l.count ≤ l.at) × (tally_from l.size l.count l.file l.at ≡ tally_of l.size (log_of l.size l.file l.begin))

abbrev pub decreases-loop-b : goal.decreases-loop-b
decreases-loop-b l = length l.file - l.at
