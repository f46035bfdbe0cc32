use native.Mathlib.Omega.{arith}
use mathlib.Core.Path.{refl}
use Rattle.listing.proofs.Printed.{printed_more, printed_all}
use Rattle.listing.proofs.text.make_printed.Goals as goal

pub loop-b-init : goal.loop-b-init
loop-b-init c = refl

pub loop-b-preserved : goal.loop-b-preserved
loop-b-preserved c =
    let l = c.loop-b in
    printed_more _ _ _ _ (omega (arith, c.loop-b-test.true, l.auto.b-items)) c.printed_byte.ensures l.invariant

pub returns : goal.returns
returns c = let l = c.loop-b in printed_all _ _ _ (omega (arith, c.loop-b-test.false, l.auto.b-items)) l.invariant
