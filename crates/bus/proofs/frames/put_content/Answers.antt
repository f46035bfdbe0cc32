use Rattle.std.proofs.Common.{sym, ◌∙◌, arith}
use Rattle.wire.proofs.Puts.{put_over, put_sets}
use Rattle.bus.proofs.frames.put_content.Goals as goal

pub returns-then-out-at : goal.returns-then-out-at
returns-then-out-at c = sym (put_over _ _ _ (omega arith))

pub returns-then-out-at-2 : goal.returns-then-out-at-2
returns-then-out-at-2 c = sym (put_over _ _ _ (omega arith))

pub returns : goal.returns
returns c = c.copy_content.ensures ∙ sym (put_sets _ _ _ (omega arith))
