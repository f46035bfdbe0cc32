-- Shown values. 01: "A field's scale and transform travel together. Shown value, for U08, S08, U16, S16 and F32: raw plus transform,
-- rounded to f32, times scale, rounded; other types give 30, and so does a non-finite raw, transform, sum, scale or product."
use Rattle.std.specs.Prelude.{ℕ, Bool, true, false, cond, not, ◌||◌, List, eqb, pos, Float, Result}
use Rattle.std.specs.Float.{nan, inf, fin, binary32}
use Rattle.std.specs.Float.Ieee.{add, mul, of_int, of_bits}
use Rattle.wire.specs.Order.{◌if◌else◌, ◌or_else◌}
use Rattle.wire.specs.BigEndian.{be_of}
use Rattle.mlg_rules.specs.Types.{U08, S08, U16, S16, F32}
use Rattle.mlg_rules.specs.Field.{type_of, scale_bits, transform_bits}
use Rattle.wire.specs.Refusals.{given, checked}
use Rattle.mlg_rules.specs.Raw.{value_field_number, value_number, raw_of}
use Rattle.mlg_rules.specs.declared.Scaling.{Scaling}
use Rattle.wire.specs.declared.refusal.Refusal.{Refusal}

-- "U08, S08, U16, S16 and F32"
unfoldable pub shows : ℕ → Bool
shows t = eqb t U08 || (eqb t S08 || (eqb t U16 || (eqb t S16 || eqb t F32)))

-- neither an infinity nor a NaN
unfoldable pub finite : Float → Bool
finite nan = false
finite (inf s) = false
finite (fin s m e) = true

-- the scale and the transform in a field's bytes
unfoldable pub scaling_in : List ℕ → Scaling
scaling_in d = record { scale = of_bits binary32 (scale_bits d); transform = of_bits binary32 (transform_bits d) }

-- a raw value as an f32: what an F32's bits are, and another type's whole number
unfoldable pub raw_float : ℕ → List ℕ → Float
raw_float t b = cond (eqb t F32) (of_bits binary32 (be_of b)) (of_int binary32 (raw_of t b))

-- "raw plus transform, rounded to f32"
abbrev pub shifted : Scaling → Float → Float
shifted s x = add binary32 x s.transform

-- "times scale, rounded"
abbrev pub scaled : Scaling → Float → Float
scaled s x = mul binary32 (shifted s x) s.scale

-- 30 for "a non-finite raw, transform, sum, scale or product"
unfoldable pub scaled_number : Scaling → Float → ℕ
scaled_number s x =
    30 if not (finite x) else
    30 if not (finite s.transform) else
    30 if not (finite (shifted s x)) else
    30 if not (finite s.scale) else
    30 if not (finite (scaled s x)) else 0

-- a scale and a transform applied to a raw value
unfoldable pub apply_of : Scaling → Float → Result Float Refusal
apply_of s x = checked (scaled_number s x) (scaled s x)

-- "23 (not 89), 24, 23 (raw length), 30"
unfoldable pub shown_number : ℕ → List ℕ → List ℕ → ℕ
shown_number v d b =
    value_number v d b or_else
    30 if not (shows (type_of d)) else
    scaled_number (scaling_in d) (raw_float (type_of d) b)

-- a field's shown value
abbrev pub shown_of : List ℕ → List ℕ → Float
shown_of d b = scaled (scaling_in d) (raw_float (type_of d) b)

unfoldable pub shown_value_of : ℕ → List ℕ → List ℕ → Result Float Refusal
shown_value_of v d b = checked (shown_number v d b) (shown_of d b)

-- 30 by the field alone: its type has no shown value, or its transform or scale is not finite
unfoldable pub parts_number : List ℕ → ℕ
parts_number d =
    30 if not (shows (type_of d)) else
    30 if not (finite (scaling_in d).transform) else
    30 if not (finite (scaling_in d).scale) else 0

-- the judgement of a field before there are raw bytes: 23 (not 89), 24, 30
unfoldable pub scaling_number : ℕ → List ℕ → ℕ
scaling_number v d = value_field_number v d or_else parts_number d

-- a field's scale and transform
unfoldable pub scaling_of : ℕ → List ℕ → Result Scaling Refusal
scaling_of v d = checked (scaling_number v d) (scaling_in d)

-- the paper's number and values of each case: in a refusal every other number is 0
abbrev pub zero_float : Float
zero_float = fin false 0 (pos 0)

abbrev pub zero_scaling : Scaling
zero_scaling = record { scale = zero_float; transform = zero_float }

abbrev pub shown_answer : Result Float Refusal → ℕ × Float
shown_answer r = given zero_float r

abbrev pub scaling_answer : Result Scaling Refusal → ℕ × Scaling
scaling_answer r = given zero_scaling r
