use native.Mathlib.Omega.{arith}
use Rattle.listing_rules.specs.Longest.{NoneLonger}
use Rattle.listing_rules.proofs.Longest.{none_longer}
use Rattle.listing.proofs.measure.Goals as goal

pub returns : goal.returns
unfolding NoneLonger
returns c =
    let short = none_longer c.args.file.now (λ i. omega (arith, c.type_inv.file i)) in
    let len = (c.put_listing.ensures.text (omega arith)).counted in
    omega (arith, len)
