use borrow.Author.Rules.{rules}
use mathlib.Core.Path.{sym, ◌∙◌}
use Rattle.wire.proofs.Parts.{tail_part}
use Rattle.wire.proofs.RefusalLaws.{code_ne0}
use Rattle.frd_rules.proofs.BlockLaws.{at_good, at_found, at_refused, block_means, rest_two}
use Rattle.frd_rules.proofs.BlockAlone.{block_alone}
use Rattle.frd.proofs.block_reading.read_block.Goals as goal

pub slice_bounds-found-count : goal.slice_bounds-found-count
slice_bounds-found-count c = (at_good _ _ _ (sym c.in-Ok.ensures)).0

pub slice_bounds-found-start : goal.slice_bounds-found-start
slice_bounds-found-start c = (at_good _ _ _ (sym c.in-Ok.ensures)).0

pub found-requires : goal.found-requires
found-requires c =
    let good = at_good _ _ _ (sym c.in-Ok.ensures) in
    (rw tail_part (rest_two _ _ good.1), search rules)

pub returns-in-Ok-clause-value : goal.returns-in-Ok-clause-value
returns-in-Ok-clause-value c =
    let found = rw (c.counter_after.ensures.value, tail_part) at c.found.ensures in
    block_means _ _ _ _ _ (found ∙ at_found _ _ _ _ (sym c.in-Ok.ensures))

pub returns-in-Ok-clause-alone : goal.returns-in-Ok-clause-alone
returns-in-Ok-clause-alone c = block_alone

pub returns-in-Err-clause-value : goal.returns-in-Err-clause-value
returns-in-Err-clause-value c = rw c.number.ensures (block_means _ _ _ _ _ (at_refused _ _ _ _ _ c.in-Err.ensures (code_ne0 _)))

pub returns-in-Err-clause-alone : goal.returns-in-Err-clause-alone
returns-in-Err-clause-alone c = block_alone
