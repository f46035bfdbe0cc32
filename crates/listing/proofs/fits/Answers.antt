use native.Mathlib.Omega.{arith}
use borrow.Author.Tests.{le-leb, le-ltb}
use Prim.Native.Nat.{◌≤◌}
use lib.ListN.{length}
use Rattle.listing_rules.specs.Listing.{list_of}
use Rattle.listing_rules.specs.Longest.{NoneLonger}
use Rattle.listing_rules.proofs.Longest.{none_longer}
use Rattle.listing.proofs.fits.Goals as goal

pub returns-then-room-ge-LONGEST : goal.returns-then-room-ge-LONGEST
unfolding NoneLonger
returns-then-room-ge-LONGEST c =
    let short = none_longer c.args.file.now (λ i. omega (arith, c.type_inv.file i)) in
    let room = c.if-room-ge-LONGEST.true in
    let h : length (list_of c.args.file.now) ≤ c.args.room = omega (arith, room) in
    rw (le-leb _ _ room, le-ltb _ _ h)
