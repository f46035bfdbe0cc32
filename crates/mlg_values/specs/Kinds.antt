-- The numbers of the types of fields. 01: "Types 0-7 are U08, S08, U16, S16, U32, S32, S64, F32; 10, 11, 12 are 8, 16, 32-bit bit fields."
use Rattle.std.specs.Prelude.{◌≡◌, ℕ, Option, None, Some}
use Rattle.mlg_rules.specs.Types.{size_of}
use Rattle.mlg_values.specs.declared.Kind.{Kind}
use Rattle.mlg_values.specs.declared.Kind.TheVariants as K

abbrev pub kind_number : Kind → ℕ
kind_number K.U08 = 0
kind_number K.S08 = 1
kind_number K.U16 = 2
kind_number K.S16 = 3
kind_number K.U32 = 4
kind_number K.S32 = 5
kind_number K.S64 = 6
kind_number K.F32 = 7
kind_number K.Bits8 = 10
kind_number K.Bits16 = 11
kind_number K.Bits32 = 12

-- what a number is the number of: a type, or none
abbrev pub KindOf : ℕ → Option Kind → Type 0
KindOf n (Some k) = kind_number k ≡ n
KindOf n None = size_of n ≡ 0
