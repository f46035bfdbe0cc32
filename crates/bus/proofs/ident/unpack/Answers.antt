use Rattle.std.proofs.Common.{◌≡◌, ℕ, Result, Ok, sym, ◌∙◌, subst}
use Rattle.std.proofs.lemmas.Result.{err_from_is_err_and}
use Rattle.wire.specs.declared.refusal.Refusal.{Refusal}
use Rattle.wire.proofs.RefusalLaws.{refused, held}
use Rattle.bus_rules.specs.Ident.{no_parts, parts_of, unpack_of}
use Rattle.bus_rules.specs.Rows.{PackAfterUnpack, RowByRow, LawfulIds}
use Rattle.bus_rules.specs.declared.Parts.{Parts}
use Rattle.bus_rules.proofs.RowTheorems.{row_theorems}
use Rattle.bus.proofs.ident.unpack.Goals as goal

-- what is proved of unpack_of holds of the answer
said : (r : Result Parts Refusal) (id : ℕ) → r ≡ unpack_of id
    → PackAfterUnpack id r × (((p : Parts) → r ≡ Ok p → RowByRow id p) × LawfulIds)
said r id e =
    let back = subst (PackAfterUnpack id) (sym e) (row_theorems.pack_after_unpack id) in
    (back, (λ p h. row_theorems.unpacked_by_row id p (sym e ∙ h), row_theorems.lawful_ids))

pub returns-in_err-check_id : goal.returns-in_err-check_id
unfolding unpack_of
returns-in_err-check_id c =
    let id = c.args.id in
    let r = err_from_is_err_and c.from_residual.result c.from_residual.ensures.1 in
    let e = refused no_parts (parts_of id) _ _ c.in_err-check_id.ensures in
    rw (r.1, r.2) (record { fact = e; back = (said _ id e.0).0; rows = (said _ id e.0).1.0; lawful = (said _ id e.0).1.1 })

pub returns : goal.returns
unfolding unpack_of
returns c =
    let id = c.args.id in
    let e = held no_parts (parts_of id) _ _ (sym c.in_ok-check_id.ensures) c.parts_of.ensures in
    record { fact = e; back = (said _ id e.0).0; rows = (said _ id e.0).1.0; lawful = (said _ id e.0).1.1 }
