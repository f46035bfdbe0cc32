use mathlib.Core.Path.{refl}
use Rattle.bus_rules.specs.Device.{currently, is_current, reloads, with_current}
use Rattle.bus.proofs.holder.make_current.Goals as goal

-- the tests of the code are those of `reloads`
pub returns-then-s-is_current : goal.returns-then-s-is_current
unfolding currently is_current reloads with_current
returns-then-s-is_current c = (refl, λ d g h. rw c.if-s-is_current.true (c.copy.ensures d _ g h))

pub returns-else-s-is_current : goal.returns-else-s-is_current
unfolding currently is_current reloads with_current
returns-else-s-is_current c = (refl, λ d g h. rw c.if-s-is_current.false)
