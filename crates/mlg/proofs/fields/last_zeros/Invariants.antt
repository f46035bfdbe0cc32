use Rattle.std.proofs.Common.{◌≡◌, ◌≤◌, length, drop}
use Rattle.wire.specs.Text.{zeros}
use Rattle.mlg_rules.specs.Area.{area_of}
use Rattle.mlg_rules.proofs.ZeroLaws.{Found}
use Rattle.mlg.proofs.fields.last_zeros.Given as goal

abbrev pub invariant-loop-k : goal.invariant-loop-k
invariant-loop-k l =
    Found (area_of l.names l.info) l.last l.k
    × (zeros (drop l.end (area_of l.names l.info)) ≡ l.k)
    × (length l.last ≡ 32)
    × (l.end ≤ length l.names)
