use Rattle.std.proofs.Common.{refl, sym, arith}
use Rattle.mlg_rules.proofs.BlockLaws.{parts_data, parts_mark, mark_whole, least}
use Rattle.mlg.proofs.block_reading.block_parts.Goals as goal

pub bounds-t-1 : goal.bounds-t-1
bounds-t-1 c = omega (arith, least _ _ _ refl c.requires.1)

pub returns-then-t-eq0 : goal.returns-then-t-eq0
returns-then-t-eq0 c = rw c.be16-time.ensures (sym (parts_data _ _ _ _ c.if-t-eq0.true))

pub mark_len-requires : goal.mark_len-requires
mark_len-requires c = omega (arith, mark_whole _ _ c.requires.1 c.if-t-eq0.false)

pub returns-else-t-eq0 : goal.returns-else-t-eq0
returns-else-t-eq0 c = rw (c.be16-time.ensures, c.mark_len.ensures) (sym (parts_mark _ _ _ _ c.if-t-eq0.false))
