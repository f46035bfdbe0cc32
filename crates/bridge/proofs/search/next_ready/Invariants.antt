use Rattle.std.specs.Prelude.{◌≡◌, ◌+◌, ◌-◌, ◌≤◌}
use Rattle.bridge_rules.specs.State.{first_slot}
use Rattle.bridge.proofs.Searches.{ready_in}
use Rattle.bridge.proofs.search.next_ready.Given as goal

abbrev pub invariant-loop-i : goal.invariant-loop-i
invariant-loop-i l = record {
  within : l.i ≤ 4;
  rest : first_slot (ready_in l.b.slots) l.start 4 ≡ first_slot (ready_in l.b.slots) (l.start + l.i) (4 - l.i);
}

abbrev pub decreases-loop-i : goal.decreases-loop-i
decreases-loop-i l = 4 - l.i
