use Rattle.mlg_rules.proofs.SpanLaws.{names_none, names_some}
use Rattle.mlg.proofs.spans.names_end.Goals as goal

pub returns-then-info-eq0 : goal.returns-then-info-eq0
returns-then-info-eq0 c = names_none c.args.h c.if-info-eq0.true

pub returns-else-info-eq0 : goal.returns-else-info-eq0
returns-else-info-eq0 c = names_some c.args.h c.if-info-eq0.false
