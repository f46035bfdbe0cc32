use Rattle.std.proofs.Common.{ℕ, length, refl, sym, ◌∙◌, ap, arith}
use Rattle.std.proofs.lemmas.Result.{err_from_is_err_and}
use Rattle.wire.specs.Writer.{leaves}
use Rattle.wire.proofs.RefusalLaws.{code_ne0}
use Rattle.wire.proofs.Writes.{refuses, writes, left}
use Rattle.mlg_rules.specs.Writing.{mark_bytes}
use Rattle.mlg_rules.proofs.BlockBack.{mark_back}
use Rattle.mlg_rules.proofs.BlockBytes.{mark_fits, mark_length}
use Rattle.mlg_rules.proofs.BlockSame.{block_same}
use Rattle.mlg.proofs.block_writing.write_mark.Goals as goal

pub returns-in_err-check_mark : goal.returns-in_err-check_mark
returns-in_err-check_mark c =
    let r = err_from_is_err_and c.from_residual.result c.from_residual.ensures.1 in
    rw (r.1, r.2) (record { fact = refuses _ _ _ _ c.in_err-check_mark.ensures (code_ne0 _); back = mark_back; same = block_same })

pub put_mark-requires : goal.put_mark-requires
put_mark-requires c =
    let a = c.args in
    let f = mark_fits a.text.now (length a.out.now) (sym c.in_ok-check_mark.ensures) in
    (f.0, f.2)

pub returns : goal.returns
returns c =
    let a = c.args in
    let f = mark_fits a.text.now (length a.out.now) (sym c.in_ok-check_mark.ensures) in
    record {
      fact = writes _ _ _ _ _ c.in_ok-check_mark.ensures (mark_length _ a.time a.text.now (omega (arith, f.0)))
          (c.put_mark.ensures ∙ ap (λ (k : ℕ). leaves 0 (mark_bytes k a.time a.text.now) a.out.now) c.counter_after.ensures.value
          ∙ left 0 _ _ refl);
      back = mark_back;
      same = block_same;
    }
