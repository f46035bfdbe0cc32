use Rattle.std.proofs.Common.{◌≡◌, ℕ, Result, Ok, sym, ap, ◌∙◌, subst}
use Rattle.std.proofs.lemmas.Result.{err_from_is_err_and}
use Rattle.wire.specs.declared.refusal.Refusal.{Refusal}
use Rattle.wire.proofs.RefusalLaws.{refused, held}
use Rattle.bus_rules.specs.Ident.{id_in, pack_of}
use Rattle.bus_rules.specs.Rows.{UnpackAfterPack, RowByRow, LawfulIds}
use Rattle.bus_rules.specs.declared.Parts.{Parts}
use Rattle.bus_rules.proofs.IdentLaws.{zero_lawful, same_in_rows}
use Rattle.bus_rules.proofs.RowTheorems.{row_theorems}
use Rattle.bus.proofs.ident.pack.Goals as goal

-- what is proved of pack_of holds of the answer
said : (r : Result ℕ Refusal) (p : Parts) → r ≡ pack_of p
    → UnpackAfterPack p r × (((id : ℕ) → r ≡ Ok id → RowByRow id p) × LawfulIds)
said r p e =
    let back = subst (UnpackAfterPack p) (sym e) (row_theorems.unpack_after_pack p) in
    (back, (λ id h. row_theorems.packed_by_row p id (sym e ∙ h), row_theorems.lawful_ids))

pub returns-in_err-check_parts : goal.returns-in_err-check_parts
unfolding pack_of
returns-in_err-check_parts c =
    let p = c.args.p in
    let r = err_from_is_err_and c.from_residual.result c.from_residual.ensures.1 in
    let e = refused 0 (id_in p) _ _ c.in_err-check_parts.ensures in
    rw (r.1, r.2) (record { fact = e; back = (said _ p e.0).0; rows = (said _ p e.0).1.0; lawful = (said _ p e.0).1.1 })

pub returns : goal.returns
unfolding pack_of
returns c =
    let p = c.args.p in
    let z = sym c.in_ok-check_parts.ensures in
    let id = c.id_in_rows.ensures ∙ ap id_in (same_in_rows p (zero_lawful p z)) in
    let e = held 0 (id_in p) _ _ z id in
    record { fact = e; back = (said _ p e.0).0; rows = (said _ p e.0).1.0; lawful = (said _ p e.0).1.1 }
