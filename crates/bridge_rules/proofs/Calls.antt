-- The theorems on single calls.
use Rattle.bridge_rules.specs.Calls.{Calls}
use Rattle.bridge_rules.proofs.AllExamples.{examples}
use Rattle.bridge_rules.proofs.SoundExactly.{sound_exactly_lem}
use Rattle.bridge_rules.proofs.KeepsSound.{keeps_sound_lem, reset_fresh_lem}
use Rattle.bridge_rules.proofs.RefusalsKeep.{unsound_refused_lem, refusals_keep_lem}
use Rattle.bridge_rules.proofs.CallChanges.{changes}
use Rattle.bridge_rules.proofs.OpeningNumbers.{opening_numbers_lem, opens_exactly_lem}
use Rattle.bridge_rules.proofs.NumbersInRuns.{numbers_in_runs_lem}
use Rattle.bridge_rules.proofs.TurnSends.{turn_sends_lem, sends_for_transfers_lem}

pub calls : Calls
calls = record {
  keeps_sound = keeps_sound_lem;
  reset_fresh = reset_fresh_lem;
  unsound_refused = unsound_refused_lem;
  sound_exactly = sound_exactly_lem;
  refusals_keep = refusals_keep_lem;
  changes = changes;
  turn_sends = turn_sends_lem;
  sends_for_transfers = sends_for_transfers_lem;
  opening_numbers = opening_numbers_lem;
  opens_exactly = opens_exactly_lem;
  numbers_in_runs = numbers_in_runs_lem;
  examples = examples;
}
