use Rattle.std.proofs.Common.{ℕ, ◌+◌, length, sym, ap, ◌∙◌}
use Rattle.mlg_rules.proofs.AreaLaws.{area_length}
use Rattle.mlg.proofs.fields.Area.of.Goals as goal

pub returns-clause-told : goal.returns-clause-told
returns-clause-told c =
    let n = c.args.names.now in
    (area_length n c.args.info.now ∙ ap (λ (k : ℕ). length n + k) (sym c.ended_len.ensures), c.last_zeros.ensures)
