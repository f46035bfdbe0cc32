use Rattle.std.proofs.Common.{◌≡◌, ◌+◌, ◌/◌, length}
use Rattle.std.specs.Slice.Iter.{chunks_exact_rest, chunks_exact_size}
use Rattle.mlg_rules.specs.Layout.{field_len}
use Rattle.mlg_rules.specs.Fields.{sizes}
use Rattle.mlg.proofs.header_writing.sizes_of.Given as goal

abbrev pub invariant-loop-d : goal.invariant-loop-d
invariant-loop-d l =
    let rest = chunks_exact_rest l.d-iterator in
    let each = field_len l.version in
    (chunks_exact_size l.d-iterator ≡ each) × (l.total + sizes l.version (length rest / each) rest ≡ sizes l.version (length l.fields / each) l.fields)
