use native.Mathlib.Omega.{arith}
use Rattle.print.proofs.Pieces.{fits, left_out}
use Rattle.print.proofs.Page.text.Goals as goal

pub returns-then-s-saturating_sub-clause-puts : goal.returns-then-s-saturating_sub-clause-puts
returns-then-s-saturating_sub-clause-puts c = fits _ _ _ _ (omega arith) c.put.ensures

pub returns-else-s-saturating_sub-clause-puts : goal.returns-else-s-saturating_sub-clause-puts
returns-else-s-saturating_sub-clause-puts c = left_out _ _ _ (omega arith)
