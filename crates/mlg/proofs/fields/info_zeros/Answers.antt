use Rattle.std.proofs.Common.{◌≡◌, length, rules, arith}
use Rattle.mlg_rules.proofs.AreaLaws.{ended_empty}
use Rattle.mlg_rules.proofs.ZeroLaws.{info_zeros}
use Rattle.mlg.proofs.fields.info_zeros.Goals as goal

pub returns-then-is_empty : goal.returns-then-is_empty
returns-then-is_empty c = let none : length c.args.info.now ≡ 0 = search rules in (ended_empty c.args.info.now 0 none, omega arith)

pub returns-else-is_empty : goal.returns-else-is_empty
returns-else-is_empty c =
    let some : length c.args.info.now ≡ 0 → ⊥ = search rules in
    (omega (arith, info_zeros c.args.info.now some c.requires), omega arith)
