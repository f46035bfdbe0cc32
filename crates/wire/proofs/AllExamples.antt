-- The examples, by computing them. It stands on no law, and its name comes first: a wrong definition is refused here.
use Rattle.std.proofs.Common.{refl}
use Rattle.wire.specs.Log.{counter_after}
use Rattle.wire.specs.Counters.{CounterExamples}

pub counter_examples : CounterExamples
unfolding counter_after
counter_examples = record { after254 = refl; after255 = refl; after256 = refl; after257 = refl }
