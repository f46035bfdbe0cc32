-- Raw values. 01: "Value calls take a field's 89 bytes and its raw bytes: 23 (not 89), 24, 23 (raw length), 30. Raw whole numbers are
-- exact for all types; F32 raw is its bits." In what follows d are a field's bytes in version v, and b its raw bytes.
use Rattle.std.specs.Prelude.{ℕ, ◌*◌, Bool, cond, not, ◌||◌, List, eqb, length, ℤ, pos, Result}
use Rattle.wire.specs.Order.{◌if◌else◌, ◌or_else◌}
use Rattle.wire.specs.BigEndian.{be_of}
use Rattle.wire.specs.Sign.{signed_of}
use Rattle.mlg_rules.specs.Layout.{field_len}
use Rattle.mlg_rules.specs.Types.{S08, S16, S32, S64, size_of}
use Rattle.mlg_rules.specs.Field.{type_of, bits_of, field_size, type_number}
use Rattle.wire.specs.Refusals.{given, checked}
use Rattle.wire.specs.declared.refusal.Refusal.{Refusal}

-- "23 (not 89), 24"
unfoldable pub value_field_number : ℕ → List ℕ → ℕ
value_field_number v d = 23 if not (eqb (length d) (field_len v)) else type_number (type_of d) (bits_of d)

-- "23 (not 89), 24, 23 (raw length)"
unfoldable pub value_number : ℕ → List ℕ → List ℕ → ℕ
value_number v d b = value_field_number v d or_else 23 if not (eqb (length b) (field_size d)) else 0

-- the signed types
unfoldable pub signed_type : ℕ → Bool
signed_type t = eqb t S08 || (eqb t S16 || (eqb t S32 || eqb t S64))

-- the exact whole number of a type's raw bytes
unfoldable pub raw_of : ℕ → List ℕ → ℤ
raw_of t b = cond (signed_type t) (signed_of (8 * size_of t) (be_of b)) (pos (be_of b))

-- a field's raw value
unfoldable pub raw_value_of : ℕ → List ℕ → List ℕ → Result ℤ Refusal
raw_value_of v d b = checked (value_number v d b) (raw_of (type_of d) b)

-- the paper's number and value of each case: in a refusal every other number is 0
abbrev pub raw_answer : Result ℤ Refusal → ℕ × ℤ
raw_answer r = given (pos 0) r
