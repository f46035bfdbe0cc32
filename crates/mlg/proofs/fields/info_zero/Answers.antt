use Rattle.std.proofs.Common.{◌≡◌, length, rules, arith}
use Rattle.mlg_rules.proofs.AreaLaws.{area_length, ended_length}
use Rattle.mlg.proofs.fields.info_zero.Goals as goal

pub returns-else-is_empty : goal.returns-else-is_empty
returns-else-is_empty c =
    let a = c.args in
    let some : length a.info.now ≡ 0 → ⊥ = search rules in
    (λ none. absurd (some none), λ s. omega (arith, area_length a.names.now a.info.now, ended_length a.info.now some))
