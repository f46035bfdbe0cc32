use Rattle.listing.proofs.Printed.{PrintedTo}
use Rattle.listing.proofs.text.make_printed.Given as goal

abbrev pub invariant-loop-b : goal.invariant-loop-b
invariant-loop-b l = PrintedTo l.fn.text l.b-items l.b-index
