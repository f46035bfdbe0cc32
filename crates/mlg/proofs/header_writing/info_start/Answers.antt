use Rattle.std.proofs.Common.{◌≡◌, length, rules}
use Rattle.mlg_rules.proofs.HeaderBytes.{start_none, start_some}
use Rattle.mlg.proofs.header_writing.info_start.Goals as goal

pub returns-then-is_empty : goal.returns-then-is_empty
returns-then-is_empty c = let none : length c.args.info.now ≡ 0 = search rules in start_none c.args.at c.args.info.now none

pub returns-else-is_empty : goal.returns-else-is_empty
returns-else-is_empty c = let some : length c.args.info.now ≡ 0 → ⊥ = search rules in start_some c.args.at c.args.info.now some
