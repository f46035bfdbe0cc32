use borrow.Author.Rules.{rules}
use mathlib.Core.Path.{◌≡◌, ◌∙◌, ap}
use mathlib.Core.Bool.{Bool, true, false, ◌&&◌}
use lib.Dec.{leb}
use Rattle.bridge_rules.specs.declared.Bridge.{Bridge}
use Rattle.bridge_rules.specs.State.{sound_slots, distinct, sound}
use Rattle.bridge.proofs.FourSlots.{sound_parts}
use Rattle.bridge.proofs.soundness.sound.Goals as goal
use Rattle.bridge.proofs.soundness.sound.Goals.{After-sound_rests}

-- the test of the numbers, and the code's tests as those of a sound state
module _ (c : After-sound_rests) where
  abbrev held : Bridge
  held = c.args.b

  abbrev with-rests : Bool → Bool
  with-rests ok = leb held.own 15 && leb held.last 3 && ok

  abbrev numbers : Bool
  numbers = with-rests c.sound_rests.result

  parts : (numbers && sound_slots held.issued held.slots && distinct held.slots) ≡ sound held
  parts =
      ap (λ (ok : Bool). with-rests ok && sound_slots held.issued held.slots && distinct held.slots) c.sound_rests.ensures
      ∙ sound_parts held (search rules) (search rules) (search rules)

pub returns-else-numbers : goal.returns-else-numbers
returns-else-numbers c =
    let e : numbers (goal.at.returns-else-numbers c).After-sound_rests ≡ false = c.if-numbers.false in
    rw (← parts (goal.at.returns-else-numbers c).After-sound_rests, e)

pub returns-then-numbers : goal.returns-then-numbers
returns-then-numbers c =
    let e : numbers (goal.at.returns-then-numbers c).After-sound_rests ≡ true = c.if-numbers.true in
    rw (c.sound_slots.ensures, ← parts (goal.at.returns-then-numbers c).After-sound_rests, e)
