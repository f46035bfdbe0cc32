use Rattle.std.proofs.Common.{refl}
use Rattle.wire.specs.Log.{counter_after}
use Rattle.wire.proofs.AllExamples.{counter_examples}
use Rattle.wire.proofs.Counters.{rolling}
use Rattle.wire.proofs.counter_after.Goals as goal

pub returns : goal.returns
unfolding counter_after
returns c = record { value = refl; rolling = rolling; examples = counter_examples }
