use Rattle.reckonings.proofs.Reckonings.{reckoned}
use Rattle.cases.proofs.run.Goals as goal

pub returns : goal.returns
returns g c = record { reckoned = reckoned }
