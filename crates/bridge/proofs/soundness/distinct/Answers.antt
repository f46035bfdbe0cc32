use borrow.Author.Rules.{rules}
use Rattle.bridge.proofs.FourSlots.{distinct_four}
use Rattle.bridge.proofs.soundness.distinct.Goals as goal

pub returns : goal.returns
returns c =
    rw (
      c.apart.ensures,
      c.apart-2.ensures,
      c.apart-3.ensures,
      c.apart-4.ensures,
      c.apart-5.ensures,
      c.apart-6.ensures,
    ) (distinct_four c.args.slots (search rules))
