use Rattle.std.proofs.Common.{rules, ◌≡◌, ◌∙◌, ℕ}
use Rattle.std.proofs.lemmas.Iterator.{YieldsList-from_slice}
use Rattle.std.proofs.lemmas.Iterator.Search.{all_from_yields_List}
use borrow.Author.Tests.{tests}
use lib.Dec.{leb}
use Rattle.std.specs.List.{list_all}
use Rattle.bridge.proofs.FourSlots.{rests_all}
use Rattle.bridge.proofs.soundness.sound_rests.Goals as goal

pub returns : goal.returns
returns c =
    let e : c.all.result ≡ list_all (λ (n : ℕ). leb n 60) c.args.rests =
    all_from_yields_List (λ (n : ℕ). leb n 60) _ _ _ c.all.ensures.ran (YieldsList-from_slice c.args.rests cc) (λ x b q k. search (rules, tests)) in
    e ∙ rests_all c.args.rests
