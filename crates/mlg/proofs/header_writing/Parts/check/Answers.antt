use Rattle.std.proofs.Common.{refl, sym, ◌∙◌}
use Rattle.std.proofs.lemmas.Result.{err_from_is_err_and}
use borrow.Author.Tests.{lt-ltb, le-ltb}
use Rattle.wire.proofs.Orders.{else_none, else_refused, if_yes, if_no}
use Rattle.mlg_rules.specs.Writing.{write_header_number}
use Rattle.mlg_rules.proofs.HeaderBytes.{header_length}
use Rattle.mlg.proofs.header_writing.Parts.check.Goals as goal

pub returns-in_err-check_lengths : goal.returns-in_err-check_lengths
unfolding write_header_number
returns-in_err-check_lengths c =
    let r = err_from_is_err_and c.from_residual.result c.from_residual.ensures.1 in
    rw (r.1, r.2) (else_refused _ _ _ c.in_err-check_lengths.ensures)

pub check_body-requires : goal.check_body-requires
check_body-requires c = sym c.in_ok-check_lengths.ensures

pub returns-in_err-check_body : goal.returns-in_err-check_body
unfolding write_header_number
returns-in_err-check_body c =
    let r = err_from_is_err_and c.from_residual-in_err-check_body.result c.from_residual-in_err-check_body.ensures.1 in
    rw (r.1, r.2) (else_none _ _ _ _ c.in_ok-check_lengths.ensures refl (else_refused _ _ _ c.in_err-check_body.ensures))

pub total_len-requires : goal.total_len-requires
total_len-requires c = sym c.in_ok-check_lengths.ensures

pub returns-then-room-total_len : goal.returns-then-room-total_len
unfolding write_header_number
returns-then-room-total_len c =
    let s = c.args.self.now in
    let total = c.total_len.ensures.0 ∙ sym (header_length s.version s.time s.fields.now s.names.now s.info.now) in
    else_none _ _ _ _ c.in_ok-check_lengths.ensures refl
    (else_none _ _ _ _ c.in_ok-check_body.ensures refl (if_yes 27 _ 0 (lt-ltb _ _ (rw total at c.if-room-total_len.true))))

pub returns : goal.returns
unfolding write_header_number
returns c =
    let s = c.args.self.now in
    let total = c.total_len.ensures.0 ∙ sym (header_length s.version s.time s.fields.now s.names.now s.info.now) in
    else_none _ _ _ _ c.in_ok-check_lengths.ensures refl
    (else_none _ _ _ _ c.in_ok-check_body.ensures refl (if_no 27 _ 0 0 (le-ltb _ _ (rw total at c.if-room-total_len.false)) refl))
