-- The raw values of fields, one by one.
use Prim.Native.Nat.{ℕ, zero, suc, ◌+◌, ◌-◌, ◌≤◌, ◌<◌}
use mathlib.Core.Path.{◌≡◌, refl}
use mathlib.Core.List.{List, [], ◌++◌}
use native.Mathlib.Omega.{arith}
use lib.Seq.{take_at, drop_at}
use lib.ListN.{length, take, drop, length-take}
use Rattle.wire.proofs.Parts.{part_is, tail_part}
use Rattle.mlg_rules.specs.Layout.{layout_of, header_len}
use Rattle.mlg_rules.specs.Field.{field_size}
use Rattle.mlg_rules.specs.Raw.{value_number}
use Rattle.listing_rules.specs.Lines.{value_text, values_text}
use Rattle.listing_rules.specs.BlockInFile.{ValuesNotRefused}
use Rattle.listing_rules.proofs.RawValues.{value_lengths}

-- a field that is cut off what is left of the fields' bytes, and its raw bytes off theirs
pub record Cut (t b field more raw after : List ℕ) (size : ℕ) : Type 0 where
  pub fields_are : t ≡ field ++ more
  pub long : length field ≡ 89
  pub size_is : size ≡ field_size field
  pub raw_is : raw ≡ take size b
  pub after_is : after ≡ drop size b

module _ (v n m : ℕ) {size : ℕ} {t b field more raw after : List ℕ} (h : n ≡ m + 1) (g : Cut t b field more raw after size) where
  one_more : n ≡ suc m
  one_more = omega arith

  pub value_next : values_text v n t b ≡ value_text field raw ++ values_text v m more after
  unfolding layout_of
  value_next = rw (one_more, g.raw_is, g.after_is, g.size_is, g.fields_are, take_at field more 89 g.long, drop_at field more 89 g.long)

  pub not_refused_next : ValuesNotRefused v n t b → (value_number 2 field raw ≡ 0) × ValuesNotRefused v m more after
  unfolding layout_of
  not_refused_next k =
      rw (g.raw_is, g.after_is, g.size_is) (rw (one_more, g.fields_are, take_at field more 89 g.long, drop_at field more 89 g.long) at k)

-- its raw bytes are there
pub raw_within : (v n m : ℕ) (t b field more : List ℕ) → n ≡ m + 1 → t ≡ field ++ more → length field ≡ 89 → ValuesNotRefused v n t b
    → field_size field ≤ length b
raw_within v n m t b field more h e l k =
    let cut : Cut t b field more (take (field_size field) b) (drop (field_size field) b) (field_size field) =
    record { fields_are = e; long = l; size_is = refl; raw_is = refl; after_is = refl } in
    omega (arith, rw length-take at (value_lengths _ _ (not_refused_next v n m h cut k).0).1)

pub values_none : (v n : ℕ) (t b : List ℕ) → n ≡ 0 → values_text v n t b ≡ []
values_none v n t b e = rw e

-- where no field is left, no value is
pub no_field : (v n : ℕ) (t b : List ℕ) → ValuesNotRefused v n t b → (0 < n → length t < 89) → n ≡ 0
unfolding layout_of
no_field v zero t b k h = refl
no_field v (suc n) t b k h = absurd (omega (arith, h (omega arith), rw length-take at (value_lengths _ _ k.0).0))

-- the fields of a file and the record of a block, as the code cuts them
module _ (v n : ℕ) (f : List ℕ) (header start size : ℕ) (e : header ≡ header_len v) where
  pub cut_values : values_text v n (take (length f - header) (drop header f)) (take (start + size - start) (drop start f))
      ≡ values_text v n (drop (header_len v) f) (take size (drop start f))
  cut_values = rw (tail_part f header, part_is f start size size refl, e)
