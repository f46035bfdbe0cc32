use mathlib.Core.Path.{◌∙◌}
use Rattle.bus_rules.proofs.FrameLaws.{part_is}
use Rattle.bus_rules.specs.Frames.{content}
use Rattle.bridge.proofs.Replies.{same_is}
use Rattle.bridge.proofs.incoming.same_bytes.Goals as goal

pub returns : goal.returns
unfolding content
returns c = c.eq.ensures ∙ rw (part_is c.args.buffer.now c.args.start c.args.f.len) (same_is _ _)
