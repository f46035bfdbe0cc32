use Rattle.std.proofs.Common.{ℕ, length, refl, sym, ◌∙◌, ap}
use Rattle.std.proofs.lemmas.Result.{err_from_is_err_and}
use Rattle.wire.specs.Writer.{leaves}
use Rattle.wire.proofs.RefusalLaws.{code_ne0}
use Rattle.wire.proofs.Writes.{refuses, writes, left}
use Rattle.mlg_rules.specs.Writing.{data_bytes}
use Rattle.mlg_rules.proofs.BlockBack.{data_back}
use Rattle.mlg_rules.proofs.BlockBytes.{data_fits, data_length}
use Rattle.mlg.proofs.block_writing.write_data.Goals as goal

pub returns-in_err-check_data : goal.returns-in_err-check_data
returns-in_err-check_data c =
    let r = err_from_is_err_and c.from_residual.result c.from_residual.ensures.1 in
    rw (r.1, r.2) (record { fact = refuses _ _ _ _ c.in_err-check_data.ensures (code_ne0 _); back = data_back })

pub put_data-requires : goal.put_data-requires
put_data-requires c =
    let a = c.args in
    (data_fits a.size a.bytes.now (length a.out.now) (sym c.in_ok-check_data.ensures)).1

pub returns : goal.returns
returns c =
    let a = c.args in
    record {
      fact = writes _ _ _ _ _ c.in_ok-check_data.ensures (data_length _ a.time a.bytes.now)
          (c.put_data.ensures ∙ ap (λ (k : ℕ). leaves 0 (data_bytes k a.time a.bytes.now) a.out.now) c.counter_after.ensures.value
          ∙ left 0 _ _ refl);
      back = data_back;
    }
