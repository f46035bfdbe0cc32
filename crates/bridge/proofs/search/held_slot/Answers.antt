use Rattle.std.proofs.Common.{rules, ◌≡◌, ◌∙◌, ap, not, ◌&&◌}
use Rattle.std.proofs.lemmas.Iterator.{YieldsList-from_slice}
use Rattle.std.proofs.lemmas.Iterator.Search.{position_from_yields_List}
use borrow.Author.Tests.{tests}
use lib.Dec.{eqb}
use Rattle.std.specs.List.{position}
use Rattle.bridge_rules.specs.declared.Slot.{Slot}
use Rattle.bridge_rules.specs.State.{held_slot, slot, blank}
use Rattle.bridge_rules.specs.Views.{as_found}
use Rattle.bridge.proofs.Searches.{first_of_four}
use Rattle.bridge.proofs.search.held_slot.Goals as goal

pub returns : goal.returns
unfolding held_slot slot
returns c =
    let a = c.args in
    let e : c.position.result ≡ position (λ (x : Slot). not (eqb x.phase 0) && eqb x.ticket a.ticket) a.b.slots =
    position_from_yields_List (λ (x : Slot). not (eqb x.phase 0) && eqb x.ticket a.ticket) _ _ _ c.position.ensures.ran
    (YieldsList-from_slice a.b.slots cc) (λ x b q k. search (rules, tests)) in
    ap as_found e ∙ first_of_four (λ (x : Slot). not (eqb x.phase 0) && eqb x.ticket a.ticket) blank a.b.slots (search rules)
