use mathlib.Core.Path.{sym}
use native.Mathlib.Omega.{arith}
use Rattle.frd_rules.proofs.BlockLaws.{data_len, time_len, len_known, len_unknown}
use Rattle.frd.proofs.block_reading.block_len.Goals as goal

pub returns-in-1 : goal.returns-in-1
returns-in-1 c = len_known _ _ _ (omega (arith, c.from.ensures, data_len c.args.size c.args.kind c.in-1.is)) (omega arith)

pub returns-in-2 : goal.returns-in-2
returns-in-2 c = len_known _ _ _ (sym (time_len _ _ c.in-2.is)) (omega arith)

pub returns-in_default : goal.returns-in_default
returns-in_default c = len_unknown _ _ (λ z. omega arith) (λ z. omega arith)
