use Rattle.std.proofs.Common.{◌≡◌, length, rules, sym, ap}
use Rattle.mlg_rules.proofs.AreaLaws.{ended_none, ended_length}
use Rattle.mlg.proofs.fields.ended_len.Goals as goal

pub returns-then-is_empty : goal.returns-then-is_empty
returns-then-is_empty c = let none : length c.args.info.now ≡ 0 = search rules in sym (ap length (ended_none c.args.info.now none))

pub returns-else-is_empty : goal.returns-else-is_empty
returns-else-is_empty c = let some : length c.args.info.now ≡ 0 → ⊥ = search rules in sym (ended_length c.args.info.now some)
