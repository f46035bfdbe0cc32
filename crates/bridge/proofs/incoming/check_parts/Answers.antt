use mathlib.Core.Path.{refl}
use native.Mathlib.Omega.{arith}
use Rattle.wire.proofs.Orders.{order}
use Rattle.bridge_rules.specs.State.{slot}
use Rattle.bridge.proofs.Replies.{awaited_there, awaited_nowhere}
use Rattle.bridge.proofs.incoming.check_parts.Goals as goal

pub returns-then-p-ne-RSP : goal.returns-then-p-ne-RSP
returns-then-p-ne-RSP c = (search order depth 12, tt)

pub returns-then-k-ge4 : goal.returns-then-k-ge4
returns-then-k-ge4 c =
    let none = awaited_nowhere c.args.b c.args.f c.requires.0 c.args.p c.requires.1 _ refl (λ l. absurd (omega arith)) in
    (rw none (search order depth 12), tt)

pub returns-then-not-awaits : goal.returns-then-not-awaits
unfolding slot
returns-then-not-awaits c =
    let nowhere = awaited_nowhere c.args.b c.args.f c.requires.0 c.args.p c.requires.1 _ refl in
    let none = nowhere (λ l. rw (← c.awaits.ensures) c.if-not-awaits.true) in
    (rw none (search order depth 12), tt)

pub returns : goal.returns
unfolding slot
returns c =
    let there = awaited_there c.args.b c.args.f c.requires.0 c.args.p c.requires.1 _ refl (omega arith) in
    let some = there (rw (← c.awaits.ensures) c.if-not-awaits.false) in
    (rw some (search order depth 12), some)
