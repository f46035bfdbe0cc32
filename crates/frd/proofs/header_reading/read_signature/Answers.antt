use mathlib.Core.Path.{refl, sym}
use Rattle.std.proofs.lemmas.Result.{err_from_is_err_and}
use Rattle.frd_rules.specs.Header.{signature_in}
use Rattle.wire.proofs.RefusalLaws.{code_ne0}
use Rattle.frd_rules.proofs.HeaderLaws.{head_refused, head_given, signature_refused, signature_stands}
use Rattle.frd.proofs.header_reading.read_signature.Goals as goal

pub returns-in_err-read_header : goal.returns-in_err-read_header
returns-in_err-read_header c =
    let r = err_from_is_err_and c.from_residual.result c.from_residual.ensures.1 in
    let e = c.in_err-read_header.field-0.0 in
    rw (r.1, r.2) (record {
      value = signature_refused _ e (head_refused _ e c.in_err-read_header.ensures.1);
      part = λ z. absurd (code_ne0 e z);
    })

pub returns : goal.returns
unfolding signature_in
returns c =
    let h = head_given _ _ (sym c.in_ok-read_header.ensures.0) in
    record { value = signature_stands _ h.0; part = λ z. refl }
