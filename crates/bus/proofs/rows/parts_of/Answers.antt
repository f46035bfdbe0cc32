use Rattle.bus_rules.specs.Ident.{id_offset, id_kind, id_from, id_to, parts_of}
use Rattle.bus.proofs.rows.parts_of.Goals as goal

pub returns : goal.returns
unfolding id_offset id_kind id_from id_to parts_of
returns c = rw c.table_of.ensures
