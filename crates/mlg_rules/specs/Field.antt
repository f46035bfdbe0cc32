-- A field's bytes d, by place. A byte that is not there counts as 0; of a number cut short, the bytes that are there count. No value call
-- gets that far: another length than the version's is 23.
use Rattle.std.specs.Prelude.{ℕ, ◌*◌, List, eqb, ltb, get_or}
use Rattle.wire.specs.Order.{◌if◌else◌}
use Rattle.wire.specs.BigEndian.{be_at}
use Rattle.mlg_rules.specs.Types.{size_of, first_bit_type}

-- "Scalar: type 0, name 1 (34), units 35 (10), style 45, scale 46 (f32), transform 50 (f32), digits 54, category 55 (34)."
abbrev pub type_of : List ℕ → ℕ
type_of d = get_or d 0 0

abbrev pub name_at : ℕ
name_at = 1

abbrev pub name_len : ℕ
name_len = 34

abbrev pub units_at : ℕ
units_at = 35

abbrev pub units_len : ℕ
units_len = 10

-- the pattern of the scale, an f32
abbrev pub scale_bits : List ℕ → ℕ
scale_bits d = be_at 4 d 46

-- the pattern of the transform, an f32
abbrev pub transform_bits : List ℕ → ℕ
transform_bits d = be_at 4 d 50

abbrev pub category_at : ℕ
category_at = 55

abbrev pub category_len : ℕ
category_len = 34

-- "Bit field: styles 45 and 46, names index 47 (32 bits), bits 51, filler 52 (3)."
abbrev pub names_index : List ℕ → ℕ
names_index d = be_at 4 d 47

abbrev pub bits_of : List ℕ → ℕ
bits_of d = get_or d 51 0

-- bytes of a field's raw value
abbrev pub field_size : List ℕ → ℕ
field_size d = size_of (type_of d)

-- "24 for type, 24 for a bit field's bits over its width", by a field's type and bits
unfoldable pub type_number : ℕ → ℕ → ℕ
type_number t bits =
    24 if eqb (size_of t) 0 else
    0 if ltb t first_bit_type else
    24 if ltb (8 * size_of t) bits else 0
