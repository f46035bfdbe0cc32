use mathlib.Core.Path.{◌∙◌, sym}
use Rattle.bridge_rules.specs.Answers.{both}
use Rattle.bridge.proofs.Searches.{ready_small}
use Rattle.bridge.proofs.Turns.{turn_idles, turn_sound, turn_ready}
use Rattle.bridge.proofs.turning.turned.Goals as goal

pub send_for-requires : goal.send_for-requires
send_for-requires c =
    let a = c.aged_bridge-a in
    let k = sym c.in-Some.ensures in (
      turn_sound c.args.b a.result c.requires a.ensures _ k,
      ready_small a.result _ k,
      turn_ready c.args.b a.result c.requires a.ensures _ k,
    )

pub returns-in-Some : goal.returns-in-Some
returns-in-Some c = c.send_for.ensures ∙ rw (← c.aged_bridge-a.ensures, ← c.in-Some.ensures)

pub returns-in-None : goal.returns-in-None
returns-in-None c =
    turn_idles c.args.b (both c.args.lent.first.now c.args.lent.second.now) _ c.aged_bridge-a.ensures c.in-None.ensures
