use mathlib.Core.Path.{sym, ◌∙◌}
use Rattle.frd_rules.proofs.TallyLaws.{count_is, count_none}
use Rattle.frd_rules.proofs.LogPlaced.{log_placed}
use Rattle.frd.proofs.block_counting.count_blocks.Goals as goal

pub returns-in-Ok : goal.returns-in-Ok
returns-in-Ok c = record { value = c.count_from.ensures ∙ count_is _ _ (sym c.in-Ok.ensures.0); placed = log_placed _ }

pub returns-in-Err : goal.returns-in-Err
returns-in-Err c = record { value = count_none _ _ c.in-Err.ensures.0; placed = log_placed _ }
