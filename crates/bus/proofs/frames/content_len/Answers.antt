use Rattle.std.proofs.Common.{arith, rules}
use Rattle.bus_rules.proofs.FrameLaws.{content_min}
use Rattle.bus.proofs.frames.content_len.Goals as goal

pub returns-then-f-lt8 : goal.returns-then-f-lt8
returns-then-f-lt8 c = omega (arith, c.if-f-lt8.true, content_min c.args.f (search rules))

pub returns-else-f-lt8 : goal.returns-else-f-lt8
returns-else-f-lt8 c = omega (arith, c.if-f-lt8.false, content_min c.args.f (search rules))
