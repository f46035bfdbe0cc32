use Rattle.std.specs.Prelude.{◌≤◌, length}
use mathlib.Core.Path.{sym, ◌∙◌}
use native.Mathlib.Omega.{arith}
use borrow.Author.Tests.{ltb-true, ltb-false, not-true, not-false}
use Rattle.listing_rules.specs.Listing.{list_of}
use Rattle.listing_rules.specs.Longest.{NoneLonger}
use Rattle.listing_rules.proofs.ListWritten.{list_refused, list_written}
use Rattle.listing_rules.proofs.Longest.{none_longer}
use Rattle.listing.proofs.list.Goals as goal

pub returns-then-not-fits : goal.returns-then-not-fits
unfolding NoneLonger
returns-then-not-fits c =
    let a = c.args in
    let file = a.file.now in
    let full = not-false _ (sym c.fits.ensures ∙ c.if-not-fits.true) in
    record { value = list_refused file a.out.now (ltb-true _ _ full); file_len_bound = none_longer file (λ i. omega (arith, c.type_inv.file i)) }

pub returns : goal.returns
unfolding NoneLonger
returns c =
    let a = c.args in
    let file = a.file.now in
    let room : length (list_of file) ≤ length a.out.now = ltb-false _ _ (not-true _ (sym c.fits.ensures ∙ c.if-not-fits.false)) in
    let short = none_longer file (λ i. omega (arith, c.type_inv.file i)) in
    let same = sym c.put_listing.ensures.same_output in
    let put = list_written file a.out.now _ _ short room (c.put_listing.ensures.text (omega arith)) in
    record { value = (put.0, grind (arith, same, put.1)); file_len_bound = short }
