-- Laws of the layout, at every version.
use Prim.Native.Nat.{ℕ, ◌*◌, ◌/◌, ◌%◌, ◌≤◌, ◌<◌}
use mathlib.Core.Path.{◌≡◌, refl, ap}
use native.Mathlib.Omega.{arith}
use native.Mathlib.Nat.{mul-le-mul_right}
use Rattle.mlg_rules.specs.declared.Layout.{Layout}
use Rattle.mlg_rules.specs.Layout.{layout_of, header_len, info_len, field_len}

-- a field holds its parts up to the category, which starts at 55
pub field_least : (v : ℕ) → 55 ≤ field_len v
unfolding layout_of
field_least v = omega arith

pub field_most : (v : ℕ) → field_len v ≤ 89
unfolding layout_of
field_most v = omega arith

pub info_most : (v : ℕ) → info_len v ≤ 4
unfolding layout_of
info_most v = omega arith

-- the lengths in the layout that a call handed back
pub header_of : (v : ℕ) (l : Layout) → l ≡ layout_of v → l.header ≡ header_len v
header_of v l e = ap (λ (k : Layout). k.header) e

pub info_of : (v : ℕ) (l : Layout) → l ≡ layout_of v → l.info ≡ info_len v
info_of v l e = ap (λ (k : Layout). k.info) e

pub field_of : (v : ℕ) (l : Layout) → l ≡ layout_of v → l.field ≡ field_len v
field_of v l e = ap (λ (k : Layout). k.field) e

-- a field has a category
pub category_least : (v : ℕ) → 89 ≤ field_len v
unfolding layout_of
category_least v = omega arith

pub info_is : (v : ℕ) → 4 ≡ info_len v
unfolding layout_of
info_is v = refl

pub header_most : (v : ℕ) → header_len v ≤ 24
unfolding layout_of
header_most v = omega arith

-- version 2
pub header_two : header_len 2 ≡ 24
unfolding layout_of
header_two = refl

-- fields take at most 89 bytes each
pub fields_most : (v n : ℕ) → field_len v * n ≤ 89 * n
fields_most v n = mul-le-mul_right n (field_most v)

-- whole fields in n bytes
pub fields_whole : (v n : ℕ) → n % field_len v ≡ 0 → field_len v * (n / field_len v) ≡ n
unfolding layout_of
fields_whole v n h = omega arith

pub whole_fields_fit : (v n : ℕ) → field_len v * (n / field_len v) ≤ n
unfolding layout_of
whole_fields_fit v n = omega arith

-- few fields have few bytes
pub fields_few : (v n : ℕ) → n / field_len v ≤ 65535 → n ≤ 5832703
unfolding layout_of
fields_few v n h = omega arith

pub header_some : (v : ℕ) → 0 < header_len v
unfolding layout_of
header_some v = omega arith
