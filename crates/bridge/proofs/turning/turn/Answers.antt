use mathlib.Core.Path.{◌∙◌, sym}
use Rattle.bridge_rules.specs.Answers.{both}
use Rattle.bridge_rules.proofs.NumberLaws.{lent_ok}
use Rattle.bridge.proofs.Turns.{turn_refused, turn_goes}
use Rattle.bridge.proofs.turning.turn.Goals as goal

pub invariant_of-turned : goal.invariant_of-turned
invariant_of-turned c =
    let right = (lent_ok c.args.b (both c.args.first.now c.args.second.now) (sym c.in-Ok.ensures)).1 in
    record { first_length = right.0; second_length = right.1 }

pub turned-requires : goal.turned-requires
turned-requires c = (lent_ok c.args.b (both c.args.first.now c.args.second.now) (sym c.in-Ok.ensures)).0

pub returns-in-Ok : goal.returns-in-Ok
returns-in-Ok c =
    c.turned.ensures ∙ turn_goes c.args.b (both c.args.first.now c.args.second.now) c.in-Ok.ensures

pub returns-in-Err : goal.returns-in-Err
returns-in-Err c =
    rw c.refused.ensures (turn_refused c.args.b (both c.args.first.now c.args.second.now) _ c.in-Err.ensures)
