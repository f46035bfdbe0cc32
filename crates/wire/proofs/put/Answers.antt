use Rattle.std.proofs.Common.{sym, ◌∙◌, arith}
use Rattle.wire.proofs.Puts.{put_fits, put_over}
use Rattle.wire.proofs.put.Goals as goal

pub returns-then-out-at : goal.returns-then-out-at
returns-then-out-at c = sym (put_over _ _ _ (omega arith))

pub returns-then-out-at-2 : goal.returns-then-out-at-2
returns-then-out-at-2 c = sym (put_over _ _ _ (omega arith))

pub returns : goal.returns
returns c = c.copy.ensures ∙ sym (put_fits _ _ _ (omega arith))
