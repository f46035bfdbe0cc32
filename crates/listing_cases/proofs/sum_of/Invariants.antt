use Rattle.std.proofs.Common.{◌<◌}
use Rattle.listing_cases.proofs.sum_of.Given as goal

abbrev pub invariant-loop-b : goal.invariant-loop-b
invariant-loop-b l = l.sum < 1000003
