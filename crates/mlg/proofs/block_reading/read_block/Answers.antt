use Rattle.std.proofs.Common.{refl}
use Rattle.wire.proofs.RefusalLaws.{code_ne0}
use Rattle.mlg_rules.proofs.BlockAlone.{block_alone}
use Rattle.mlg_rules.proofs.BlockNumbers.{bad_there, block_told}
use Rattle.mlg.proofs.block_reading.read_block.Goals as goal

pub returns-in-Ok : goal.returns-in-Ok
returns-in-Ok c =
    let a = c.args in
    record { fact = block_told a.size a.earlier a.file.now a.at (c.in-Ok.ensures.block _ refl); alone = block_alone }

pub returns-in-Err : goal.returns-in-Err
returns-in-Err c =
    let a = c.args in
    record {
      fact = rw c.number.ensures (block_told a.size a.earlier a.file.now a.at (bad_there _ _ _ _ _ c.in-Err.ensures.number (code_ne0 _)));
      alone = block_alone;
    }
