use Rattle.std.proofs.Common.{rules, ◌≡◌, ◌∙◌, sym}
use Rattle.std.proofs.lemmas.Iterator.{YieldsList-from_slice}
use Rattle.std.proofs.lemmas.Iterator.Search.{all_from_yields_List}
use borrow.Author.Tests.{tests}
use Rattle.std.specs.List.{list_all}
use Rattle.bridge_rules.specs.State.{sound_slot, sound_slots}
use Rattle.bridge.proofs.FourSlots.{slots_all}
use Rattle.bridge.proofs.soundness.sound_slots.Goals as goal
use Rattle.bridge.proofs.soundness.sound_slots.Goals.{After-all}

-- the test of each slot
each : (c : After-all) → c.all.result ≡ sound_slots c.args.issued c.args.slots
each c =
    let e : c.all.result ≡ list_all (sound_slot c.args.issued) c.args.slots =
    all_from_yields_List (sound_slot c.args.issued) _ _ _ c.all.ensures.ran (YieldsList-from_slice c.args.slots cc) (λ x b q k. search (rules, tests)) in
    e ∙ slots_all c.args.issued c.args.slots

pub returns-then-all : goal.returns-then-all
returns-then-all c = rw (sym (each (goal.at.returns-then-all c).After-all) ∙ c.if-all.true) c.distinct.ensures

pub returns-else-all : goal.returns-else-all
returns-else-all c = rw (sym (each (goal.at.returns-else-all c).After-all) ∙ c.if-all.false) c.if-all.false
