use Rattle.std.specs.Prelude.{◌≡◌}
use Rattle.listing_rules.specs.Lines.{values_text}
use Rattle.listing_rules.specs.BlockInFile.{ValuesNotRefused}
use Rattle.listing.proofs.Puts.{Completes}
use Rattle.listing.proofs.text.Text.put_values.Given as goal

abbrev pub invariant-loop-field : goal.invariant-loop-field
invariant-loop-field l =
    ((goal.iterator-loop-field).can_next l.field-iterator × (goal.iterator-loop-field).is_finite l.field-iterator)
    × (l.field-iterator.iter.size ≡ 89)
    × ValuesNotRefused l.version l.field-iterator.n l.field-iterator.iter.rest.now l.rest
    × Completes l.initial.self (values_text l.version l.count l.fields l.bytes) l.self
    (values_text l.version l.field-iterator.n l.field-iterator.iter.rest.now l.rest)
