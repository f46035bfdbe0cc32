use mathlib.Core.Path.{◌∙◌}
use native.Mathlib.Omega.{arith}
use Rattle.bus_rules.proofs.RowTheorems.{build_lawful}
use Rattle.bridge.proofs.sending.Sending.next_frame.Goals as goal

pub returns : goal.returns
returns c =
    c.build.ensures.value ∙ build_lawful _ _ (record {
      offset = omega arith;
      kind = omega arith;
      from = omega arith;
      to = omega arith;
      table = omega arith;
    }) c.requires.1
