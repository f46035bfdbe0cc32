use Rattle.std.proofs.Common.{length, refl, sym, ◌∙◌}
use Rattle.std.proofs.lemmas.Result.{err_from_is_err_and}
use Rattle.wire.proofs.RefusalLaws.{code_ne0}
use Rattle.wire.proofs.Writes.{refuses, writes, left}
use Rattle.mlg_rules.proofs.AllExamples.{examples}
use Rattle.mlg_rules.proofs.HeaderBack.{header_back}
use Rattle.mlg_rules.proofs.HeaderBytes.{header_fits, header_length}
use Rattle.mlg_rules.proofs.LogBack.{log_back}
use Rattle.mlg_rules.proofs.LogSame.{log_same}
use Rattle.mlg.proofs.header_writing.write_header.Goals as goal

pub returns-in_err-check : goal.returns-in_err-check
returns-in_err-check c =
    let r = err_from_is_err_and c.from_residual.result c.from_residual.ensures.1 in
    rw (r.1, r.2)
    (record { fact = refuses _ _ _ _ c.in_err-check.ensures (code_ne0 _); back = header_back; log = log_back; same = log_same; examples = examples })

pub put-requires : goal.put-requires
put-requires c =
    let a = c.args in
    let f = header_fits 2 a.time a.fields.now a.names.now a.info.now (length a.out.now) (sym c.in_ok-check.ensures) in
    (f.0, f.2)

pub total_len-requires : goal.total_len-requires
total_len-requires c =
    let a = c.args in
    (header_fits 2 a.time a.fields.now a.names.now a.info.now (length a.out.now) (sym c.in_ok-check.ensures)).0

pub returns : goal.returns
returns c =
    let a = c.args in
    record {
      fact = writes _ _ _ _ _ c.in_ok-check.ensures
          (c.total_len.ensures.0 ∙ sym (header_length 2 a.time a.fields.now a.names.now a.info.now)) (c.put.ensures ∙ left 0 _ _ refl);
      back = header_back;
      log = log_back;
      same = log_same;
      examples = examples;
    }
