use mathlib.Core.Path.{◌≡◌, ap₂}
use mathlib.Core.Bool.{◌&&◌}
use Rattle.wire.specs.Order.{◌if◌else◌, ◌or_else◌}
use Rattle.bus_rules.specs.Device.{state_number, known_family, sound_current}
use Rattle.bus.proofs.holder.check_device.Goals as goal
use Rattle.bus.proofs.holder.check_device.Goals.{After-sound_current}

-- the tests of the state are the definition's
sound : (c : After-sound_current) → (c.known_family.result && c.sound_current.result)
    ≡ (known_family c.args.s.family && sound_current c.args.d c.args.s)
sound c = ap₂ ◌&&◌ c.known_family.ensures c.sound_current.ensures

pub returns-then-not-sound : goal.returns-then-not-sound
unfolding state_number ◌if◌else◌ ◌or_else◌
returns-then-not-sound c = rw (← sound c.before, c.if-not-sound.true)

pub returns : goal.returns
unfolding state_number ◌if◌else◌ ◌or_else◌
returns c = rw (← sound c.before.before, c.if-not-sound.false) c.check_memory.ensures
