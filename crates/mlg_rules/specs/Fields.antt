-- What a reader checks of the fields, 01: "Then each field in turn: 24 for type, 24 for a bit field's bits over its width, 28 for name,
-- units, category without a zero. If it is a bit field with bits not 0: 23 where the index is outside fields' end to data begin
-- (excluded), 28 unless that many zero-ended names lie before data begin."
-- The area is what stands from the fields' end, which is the place base, to data begin.
use Rattle.std.specs.Prelude.{ℕ, zero, suc, ◌+◌, ◌-◌, Bool, List, eqb, leb, ltb, length, take, drop}
use Rattle.wire.specs.Order.{◌if◌else◌, ◌or_else◌}
use Rattle.wire.specs.Text.{text_len, zeros}
use Rattle.mlg_rules.specs.Layout.{field_len}
use Rattle.mlg_rules.specs.Types.{first_bit_type}
use Rattle.mlg_rules.specs.Field.{type_of, name_at, name_len, units_at, units_len, category_at, category_len, names_index, bits_of, field_size, type_number}

-- the n bytes from a place of a field's bytes d have no zero
unfoldable pub unended : List ℕ → ℕ → ℕ → Bool
unended d at n = leb n (text_len (take n (drop at d)))

-- "28 for name, units, category without a zero"
unfoldable pub texts_number : List ℕ → ℕ
texts_number d =
    28 if unended d name_at name_len else
    28 if unended d units_at units_len else
    28 if unended d category_at category_len else 0

-- "If it is a bit field with bits not 0: .."
unfoldable pub names_number : ℕ → List ℕ → List ℕ → ℕ
names_number base area d =
    0 if ltb (type_of d) first_bit_type else
    0 if eqb (bits_of d) 0 else
    23 if ltb (names_index d) base else
    23 if leb (length area) (names_index d - base) else
    28 if ltb (zeros (drop (names_index d - base) area)) (bits_of d) else 0

-- one field
unfoldable pub field_number : ℕ → List ℕ → List ℕ → ℕ
field_number base area d = type_number (type_of d) (bits_of d) or_else texts_number d or_else names_number base area d

-- "each field in turn": the first n fields of the bytes t, in version v's layout
abbrev pub fields_number : ℕ → ℕ → List ℕ → ℕ → List ℕ → ℕ
fields_number v base area zero t = 0
fields_number v base area (suc n) t = field_number base area (take (field_len v) t) or_else fields_number v base area n (drop (field_len v) t)

-- "the sum of field sizes", of the first n fields; a bad type counts 0
abbrev pub sizes : ℕ → ℕ → List ℕ → ℕ
sizes v zero t = 0
sizes v (suc n) t = field_size (take (field_len v) t) + sizes v n (drop (field_len v) t)
