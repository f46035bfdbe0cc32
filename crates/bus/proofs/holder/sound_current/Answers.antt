use native.Mathlib.Omega.{arith}
use mathlib.Core.Bool.{or-false}
use borrow.Author.Tests.{ne_eqb, le-leb, lt-leb}
use Rattle.bus_rules.specs.Device.{size_of, sound_current}
use Rattle.bus.proofs.holder.sound_current.Goals as goal

pub returns-in-0 : goal.returns-in-0
unfolding sound_current
returns-in-0 c = rw (c.in-0.is, or-false)

pub returns-then-s-le31 : goal.returns-then-s-le31
unfolding sound_current size_of
returns-then-s-le31 c = rw (c.in-1.is, le-leb c.args.s.current 31 c.if-s-le31.true)

pub returns-else-s-le31 : goal.returns-else-s-le31
unfolding sound_current
returns-else-s-le31 c = rw (c.in-1.is, lt-leb c.args.s.current 31 c.if-s-le31.false)

pub returns-in_default : goal.returns-in_default
unfolding sound_current
returns-in_default c =
    let has = c.args.s.has_current in
    rw (ne_eqb has 0 (λ z. omega arith), ne_eqb has 1 (λ z. omega arith))
