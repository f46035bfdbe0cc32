use mathlib.Core.Path.{◌∙◌}
use Rattle.bridge_rules.specs.Answers.{both}
use Rattle.bridge.proofs.Replies.{frame_refused, reply_taken, frame_is}
use Rattle.bridge.proofs.incoming.frame.Goals as goal

pub taken-requires : goal.taken-requires
taken-requires c =
    let a = c.args in
    reply_taken a.b (both a.first.now a.second.now) a.f c.in-Ok.ensures.0 _ c.in-Ok.ensures.1

pub returns-in-Ok : goal.returns-in-Ok
returns-in-Ok c =
    let a = c.args in
    let g = frame_is a.b (both a.first.now a.second.now) a.f c.in-Ok.ensures.0 _ c.in-Ok.ensures.1 in
    (rw c.taken.ensures.0 g.0, c.taken.ensures.1 ∙ g.1)

pub returns-in-Err : goal.returns-in-Err
returns-in-Err c =
    let a = c.args in
    let g = frame_refused a.b (both a.first.now a.second.now) a.f _ c.in-Err.ensures.0 in
    (rw c.refused.ensures g.0, g.1)
