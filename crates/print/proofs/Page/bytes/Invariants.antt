use mathlib.Core.Path.{◌≡◌}
use Rattle.print.proofs.Pieces.{Left}
use Rattle.print.proofs.Page.bytes.Given as goal

abbrev pub invariant-loop-b : goal.invariant-loop-b
invariant-loop-b l = record {
  left : Left l.initial.self.out.now l.initial.self.at l.s l.self.out.now l.self.at l.b-index;
  same_output : l.self.out.ghost_name ≡ l.initial.self.out.ghost_name;
}
