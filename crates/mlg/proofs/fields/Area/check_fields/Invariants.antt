use Rattle.std.proofs.Common.{◌≡◌, ℕ, ◌+◌, ◌/◌, List, length}
use Rattle.std.specs.Slice.Iter.{chunks_exact_rest, chunks_exact_size}
use Rattle.mlg_rules.specs.Layout.{field_len}
use Rattle.mlg_rules.specs.Fields.{fields_number, sizes}
use Rattle.mlg.specs.Areas.{Tells}
use Rattle.mlg.proofs.fields.Area.check_fields.Given as goal

abbrev pub invariant-loop-d : goal.invariant-loop-d
invariant-loop-d l =
    let rest = chunks_exact_rest l.d-iterator in
    let each = field_len l.version in
    (chunks_exact_size l.d-iterator ≡ each)
    × ((area : List ℕ) → Tells l.self area
    → fields_number l.version l.self.base area (length rest / each) rest ≡ fields_number l.version l.self.base area (length l.fields / each) l.fields)
    × (l.total + sizes l.version (length rest / each) rest ≡ sizes l.version (length l.fields / each) l.fields)
