use Rattle.std.specs.Prelude.{◌≡◌, ◌≤◌, ◌*◌, ◌-◌, length}
use Rattle.listing_rules.specs.Lines.{field_lines}
use Rattle.listing.proofs.Puts.{Completes}
use Rattle.listing.proofs.text.Text.put_field_lines.Given as goal

abbrev pub invariant-loop-index : goal.invariant-loop-index
invariant-loop-index l =
    ((goal.iterator-loop-index).can_next l.index-iterator × (goal.iterator-loop-index).is_finite l.index-iterator)
    × (l.index-iterator.b.size ≡ 89)
    × (l.index-iterator.a.end ≡ l.count)
    × (l.index-iterator.a.start ≤ l.count)
    × (89 * (l.count - l.index-iterator.a.start) ≤ length l.index-iterator.b.rest.now)
    × Completes l.initial.self (field_lines l.version 0 l.count l.fields) l.self
    (field_lines l.version l.index-iterator.a.start (l.count - l.index-iterator.a.start) l.index-iterator.b.rest.now)
