use mathlib.Core.Path.{sym, ◌∙◌}
use Rattle.bridge_rules.specs.Turn.{carried_from, sent_frame}
use Rattle.bridge.proofs.SentFrames.{checking_carries}
use Rattle.bridge.proofs.sending.Sending.frame.Goals as goal

pub returns-then-checking : goal.returns-then-checking
unfolding sent_frame carried_from
returns-then-checking c =
    let second = sym c.checking.ensures ∙ c.if-checking.true in
    c.write_frame.ensures ∙ rw (checking_carries _ second, second)

pub returns-then-carries : goal.returns-then-carries
unfolding sent_frame carried_from
returns-then-carries c =
    let carrying = sym c.carries.ensures ∙ c.if-carries.true in
    let first = sym c.checking.ensures ∙ c.if-checking.false in
    c.write_frame-then-carries.ensures ∙ rw (carrying, first)

pub returns : goal.returns
unfolding sent_frame
returns c = c.read_frame.ensures ∙ rw (sym c.carries.ensures ∙ c.if-carries.false)
