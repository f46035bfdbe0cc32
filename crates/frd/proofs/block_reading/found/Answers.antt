use mathlib.Core.Path.{sym}
use borrow.Author.Tests.{eqb-true, eqb-false}
use Rattle.frd_rules.proofs.BlockLaws.{found_end, found_data, found_time}
use Rattle.frd.proofs.block_reading.found.Goals as goal

pub returns-then-is_empty : goal.returns-then-is_empty
returns-then-is_empty c = sym (found_end _ _ _ (eqb-true _ _ (sym c.if-is_empty.ensures)))

pub returns-then-t-eq1 : goal.returns-then-t-eq1
returns-then-t-eq1 c = sym (found_data _ _ _ (eqb-false _ _ (sym c.if-is_empty.ensures)) c.if-t-eq1.true)

pub returns-else-t-eq1 : goal.returns-else-t-eq1
returns-else-t-eq1 c = rw c.be32.ensures (sym (found_time _ _ _ (eqb-false _ _ (sym c.if-is_empty.ensures)) c.if-t-eq1.false))
