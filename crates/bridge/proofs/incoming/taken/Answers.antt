use mathlib.Core.Path.{sym, refl, ◌∙◌}
use Rattle.bridge_rules.specs.State.{slot}
use Rattle.bridge_rules.specs.Incoming.{differed}
use Rattle.bridge.proofs.incoming.taken.Goals as goal

pub differs-requires : goal.differs-requires
unfolding slot
differs-requires c = c.requires

pub returns-then-differs : goal.returns-then-differs
unfolding slot differed
returns-then-differs c =
    rw (sym c.differs.ensures ∙ c.if-differs.true) (refl, refl)

pub returns : goal.returns
unfolding slot
returns c =
    rw (c.advanced.ensures, c.put_content.ensures, sym c.differs.ensures ∙ c.if-differs.false) (refl, refl)
