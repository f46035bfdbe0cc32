use Rattle.std.proofs.Common.{sym, ◌∙◌, subst}
use Rattle.bus_rules.specs.Device.{first_state_of, none_current}
use Rattle.bus_rules.specs.Demand2.{FirstOf}
use Rattle.bus_rules.proofs.HolderStates.{first_of}
use Rattle.bus.proofs.holder.first_state.Goals as goal

pub returns-then-not-known_family-clause-value : goal.returns-then-not-known_family-clause-value
unfolding first_state_of none_current
returns-then-not-known_family-clause-value c = rw (sym c.known_family.ensures ∙ c.if-not-known_family.true)

pub returns-then-not-known_family-clause-first : goal.returns-then-not-known_family-clause-first
returns-then-not-known_family-clause-first c =
    subst (FirstOf c.args.family) (sym (returns-then-not-known_family-clause-value c)) (first_of c.args.family)

pub returns-clause-value : goal.returns-clause-value
unfolding first_state_of none_current
returns-clause-value c = rw (sym c.known_family.ensures ∙ c.if-not-known_family.false)

pub returns-clause-first : goal.returns-clause-first
returns-clause-first c = subst (FirstOf c.args.family) (sym (returns-clause-value c)) (first_of c.args.family)
