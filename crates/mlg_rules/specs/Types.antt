-- The types of fields. 01: "Types 0-7 are U08, S08, U16, S16, U32, S32, S64, F32; 10, 11, 12 are 8, 16, 32-bit bit fields."
use Rattle.std.specs.Prelude.{ℕ, [], ◌∷◌, get_or}

abbrev pub U08 : ℕ
U08 = 0

abbrev pub S08 : ℕ
S08 = 1

abbrev pub U16 : ℕ
U16 = 2

abbrev pub S16 : ℕ
S16 = 3

abbrev pub U32 : ℕ
U32 = 4

abbrev pub S32 : ℕ
S32 = 5

abbrev pub S64 : ℕ
S64 = 6

abbrev pub F32 : ℕ
F32 = 7

-- bytes of a raw value of each type, 0 for a number that is no type
unfoldable pub size_of : ℕ → ℕ
size_of t = get_or (1 ∷ 1 ∷ 2 ∷ 2 ∷ 4 ∷ 4 ∷ 8 ∷ 4 ∷ 0 ∷ 0 ∷ 1 ∷ 2 ∷ 4 ∷ []) t 0

-- the types of scalars come before those of bit fields
abbrev pub first_bit_type : ℕ
first_bit_type = 10
