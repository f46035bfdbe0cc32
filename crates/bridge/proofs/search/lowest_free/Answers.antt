use Rattle.std.proofs.Common.{rules, ◌≡◌, ◌∙◌, ap}
use Rattle.std.proofs.lemmas.Iterator.{YieldsList-from_slice}
use Rattle.std.proofs.lemmas.Iterator.Search.{position_from_yields_List}
use borrow.Author.Tests.{tests}
use lib.Dec.{eqb}
use Rattle.std.specs.List.{position}
use Rattle.bridge_rules.specs.declared.Slot.{Slot}
use Rattle.bridge_rules.specs.State.{lowest_free, slot, blank}
use Rattle.bridge_rules.specs.Views.{as_found}
use Rattle.bridge.proofs.Searches.{first_of_four}
use Rattle.bridge.proofs.search.lowest_free.Goals as goal

pub returns : goal.returns
unfolding lowest_free slot
returns c =
    let e : c.position.result ≡ position (λ (x : Slot). eqb x.phase 0) c.args.b.slots =
    position_from_yields_List (λ (x : Slot). eqb x.phase 0) _ _ _ c.position.ensures.ran
    (YieldsList-from_slice c.args.b.slots cc) (λ x b q k. search (rules, tests)) in
    ap as_found e ∙ first_of_four (λ (x : Slot). eqb x.phase 0) blank c.args.b.slots (search rules)
