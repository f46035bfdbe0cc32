-- What private functions rely on, which no promise of a public call rests on: what an Area tells of the bytes from the fields' end to data begin.
use Rattle.std.specs.Prelude.{◌≡◌, ℕ, List, length}
use Rattle.wire.specs.Text.{LastZeros}
use Rattle.mlg.specs.declared.fields.Area.{Area}

-- their length, and the places of their last zeros
abbrev pub Tells : Area → List ℕ → Type 0
Tells a bytes = (length bytes ≡ a.len) × LastZeros bytes a.last
