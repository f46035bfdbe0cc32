use Rattle.std.proofs.Common.{rules, ◌≡◌, ◌∙◌, ap, ◌&&◌, ℕ}
use Rattle.std.proofs.lemmas.Iterator.{YieldsList-from_slice, YieldsList-from_zip}
use Rattle.std.proofs.lemmas.Iterator.Search.{position_from_yields_List}
use borrow.Author.Tests.{tests}
use lib.Dec.{eqb}
use Rattle.std.specs.List.{position, zip}
use Rattle.bridge_rules.specs.declared.Slot.{Slot}
use Rattle.bridge_rules.specs.State.{lowest_givable, slot, rest, blank}
use Rattle.bridge_rules.specs.Views.{as_found}
use Rattle.bridge.proofs.Searches.{first_of_both}
use Rattle.bridge.proofs.search.lowest_givable.Goals as goal

pub returns : goal.returns
unfolding lowest_givable slot rest
returns c =
    let b = c.args.b in
    let e : c.position.result ≡ position (λ (x : Slot × ℕ). eqb x.0.phase 0 && eqb x.1 0) (zip b.slots b.rests) =
    position_from_yields_List (λ (x : Slot × ℕ). eqb x.0.phase 0 && eqb x.1 0) c.position.new.self _ _ c.position.ensures.ran
    (YieldsList-from_zip (YieldsList-from_slice b.slots cc) (YieldsList-from_slice b.rests cc)) (λ x b q k. search (rules, tests)) in
    ap as_found e ∙ first_of_both (λ (x : Slot). λ (n : ℕ). eqb x.phase 0 && eqb n 0) blank 0 b.slots b.rests (search rules) (search rules)
