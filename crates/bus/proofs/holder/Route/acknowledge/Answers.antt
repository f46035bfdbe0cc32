use Rattle.std.proofs.Common.{ap, ◌∙◌, arith}
use Rattle.bus_rules.specs.Holder.{acknowledgement, answer_with}
use Rattle.bus_rules.proofs.RowTheorems.{build_lawful}
use Rattle.bus.proofs.holder.Route.acknowledge.Goals as goal

pub returns : goal.returns
unfolding acknowledgement
returns c =
    let w = c.args.self.in_rows in
    ap (answer_with _) (c.build.ensures.value ∙ build_lawful _ _ (record {
      offset = omega arith;
      kind = omega arith;
      from = omega (arith, w.0);
      to = omega (arith, w.1);
      table = omega (arith, c.requires);
    }) (omega arith))
