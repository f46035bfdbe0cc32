use Rattle.std.proofs.lemmas.Result.{err_from_is_err_and}
use mathlib.Core.Path.{◌≡◌, refl, sym, ◌∙◌}
use mathlib.Core.Option.{some}
use native.Mathlib.Omega.{arith}
use Rattle.wire.specs.Order.{◌if◌else◌}
use Rattle.bridge_rules.specs.State.{slot, held_slot}
use Rattle.bridge_rules.specs.Ending.{ticket_number}
use Rattle.bridge.proofs.Searches.{found_at, held_small}
use Rattle.bridge.proofs.tickets.check_ticket.Goals as goal
use Rattle.bridge.proofs.tickets.check_ticket.Goals.{In_ok-k}

-- the slot that is found
found : (c : In_ok-k) → held_slot c.args.b c.args.ticket ≡ some c.in_ok-k.k
found c = sym c.held_slot.ensures ∙ found_at _ _ _ c.in_ok-k.ensures.value

pub offset_bounds-b-k : goal.offset_bounds-b-k
offset_bounds-b-k c = omega (arith, held_small c.args.b c.args.ticket _ (sym c.held_slot.ensures ∙ found_at _ _ _ c.in_ok-k.ensures.value))

pub bounds-b-k : goal.bounds-b-k
bounds-b-k c = omega (arith, held_small c.args.b c.args.ticket _ (sym c.held_slot.ensures ∙ found_at _ _ _ c.in_ok-k.ensures.value))

pub returns-in_err-check_phase : goal.returns-in_err-check_phase
unfolding ticket_number slot ◌if◌else◌
returns-in_err-check_phase c =
    let r = err_from_is_err_and c.from_residual-in_err-check_phase.result c.from_residual-in_err-check_phase.ensures.1 in
    rw (r.1, r.2, found (goal.at.returns-in_err-check_phase c).In_ok-k) (c.in_err-check_phase.ensures, tt)

pub returns : goal.returns
unfolding ticket_number slot ◌if◌else◌
returns c = rw (found (goal.at.returns c).In_ok-k) (c.in_ok-check_phase.ensures, refl)
