-- The fields one by one.
use Prim.Native.Nat.{ℕ, zero, suc, ◌+◌, ◌*◌, ◌-◌, ◌/◌, ◌≤◌, ◌<◌}
use mathlib.Core.Path.{◌≡◌, refl, sym, ap, ◌∙◌}
use mathlib.Core.List.{List, ◌++◌}
use native.Mathlib.Nat.{mul-suc}
use native.Mathlib.Omega.{arith}
use lib.ListN.{length, get_or, take, drop, length-append, length-drop, take-append-drop}
use lib.Seq.{take_at, drop_at, length-take-le, take-append-le, drop-append-le}
use Rattle.wire.specs.Order.{◌or_else◌}
use Rattle.mlg_rules.specs.Layout.{layout_of, header_len, field_len}
use Rattle.mlg_rules.specs.declared.Header.{Header}
use Rattle.mlg_rules.specs.Header.{fields_end, fields_from}
use Rattle.mlg_rules.specs.Field.{field_size}
use Rattle.mlg_rules.specs.Fields.{field_number, fields_number, sizes}
use Rattle.mlg_rules.proofs.TypeLaws.{size_most}

-- what follows the fields does not matter
part_of_lem : (v n : ℕ) (t r : List ℕ) → field_len v * suc n ≤ length t → field_len v ≤ length t
part_of_lem v n t r h = omega (arith, mul-suc (field_len v) n)

rest_of : (v n : ℕ) (t : List ℕ) → field_len v * suc n ≤ length t → field_len v * n ≤ length (drop (field_len v) t)
rest_of v n t h = rw (length-drop (field_len v) t) (omega (arith, mul-suc (field_len v) n))

pub fields_alone : (v e : ℕ) (a : List ℕ) (n : ℕ) (t r : List ℕ) → field_len v * n ≤ length t → fields_number v e a n (t ++ r) ≡ fields_number v e a n t
fields_alone v e a zero t r h = refl
fields_alone v e a (suc n) t r h =
    rw (
      take-append-le (field_len v) t r (part_of_lem v n t r h),
      drop-append-le (field_len v) t r (part_of_lem v n t r h),
      fields_alone v e a n (drop (field_len v) t) r (rest_of v n t h),
    )

pub sizes_alone : (v n : ℕ) (t r : List ℕ) → field_len v * n ≤ length t → sizes v n (t ++ r) ≡ sizes v n t
sizes_alone v zero t r h = refl
sizes_alone v (suc n) t r h =
    rw (
      take-append-le (field_len v) t r (part_of_lem v n t r h),
      drop-append-le (field_len v) t r (part_of_lem v n t r h),
      sizes_alone v n (drop (field_len v) t) r (rest_of v n t h),
    )

-- fields in whole chunks
more : (v n m : ℕ) → n ≡ field_len v + m → n / field_len v ≡ suc (m / field_len v)
unfolding layout_of
more v n m e = omega arith

few : (v n : ℕ) → n < field_len v → n / field_len v ≡ 0
unfolding layout_of
few v n h = omega arith

module _ (v : ℕ) (r x t : List ℕ) (is : r ≡ x ++ t) (long : length x ≡ field_len v) where
  one_more : length r / field_len v ≡ suc (length t / field_len v)
  one_more = more v (length r) (length t) (omega (arith, ap length is, length-append x t, long))

  pub chunk_fields : (e : ℕ) (b : List ℕ)
      → fields_number v e b (length r / field_len v) r ≡ (field_number e b x or_else fields_number v e b (length t / field_len v) t)
  chunk_fields e b = rw (one_more, is, take_at x t (field_len v) long, drop_at x t (field_len v) long)

  pub chunk_sizes : sizes v (length r / field_len v) r ≡ field_size x + sizes v (length t / field_len v) t
  chunk_sizes = rw (one_more, is, take_at x t (field_len v) long, drop_at x t (field_len v) long)

pub chunk_no_fields : (v e : ℕ) (b r : List ℕ) → length r < field_len v → fields_number v e b (length r / field_len v) r ≡ 0
chunk_no_fields v e b r h = rw (few v (length r) h)

pub chunk_no_sizes : (v : ℕ) (r : List ℕ) → length r < field_len v → sizes v (length r / field_len v) r ≡ 0
chunk_no_sizes v r h = rw (few v (length r) h)

-- their sizes are at most their bytes
sizes_most : (v n : ℕ) (t : List ℕ) → sizes v n t ≤ 8 * n
sizes_most v zero t = omega arith
sizes_most v (suc n) t = omega (arith, size_most (get_or (take (field_len v) t) 0 0), sizes_most v n (drop (field_len v) t))

pub sizes_fit : (v : ℕ) (t : List ℕ) → sizes v (length t / field_len v) t ≤ length t
unfolding layout_of
sizes_fit v t = omega (arith, sizes_most v (length t / field_len v) t)

-- the fields' bytes of a file, from the header's end to theirs
module _ (f : List ℕ) (h : Header) (within : fields_end h ≤ length f) where
  abbrev pub fields_part : List ℕ
  fields_part = take (fields_end h - header_len h.version) (drop (header_len h.version) f)

  whole_count : (v n : ℕ) → field_len v * n / field_len v ≡ n
  unfolding layout_of
  whole_count v n = omega arith

  part_length : length fields_part ≡ field_len h.version * h.count
  unfolding fields_end
  part_length =
      length-take-le (fields_end h - header_len h.version) (drop (header_len h.version) f) (simp length-drop (omega arith)) ∙ omega arith

  part_count : length fields_part / field_len h.version ≡ h.count
  part_count = rw part_length (whole_count h.version h.count)

  parts : fields_from f h ≡ fields_part ++ drop (fields_end h - header_len h.version) (drop (header_len h.version) f)
  parts = sym (take-append-drop (fields_end h - header_len h.version) (drop (header_len h.version) f))

  pub read_fields : (e : ℕ) (a : List ℕ)
      → fields_number h.version e a (length fields_part / field_len h.version) fields_part ≡ fields_number h.version e a h.count (fields_from f h)
  read_fields e a =
      let long : field_len h.version * h.count ≤ length fields_part = omega (arith, part_length) in
      ap (λ (n : ℕ). fields_number h.version e a n fields_part) part_count
      ∙ sym (fields_alone h.version e a h.count fields_part (drop (fields_end h - header_len h.version) (drop (header_len h.version) f)) long)
      ∙ ap (fields_number h.version e a h.count) (sym parts)

  pub read_sizes : sizes h.version (length fields_part / field_len h.version) fields_part ≡ sizes h.version h.count (fields_from f h)
  read_sizes =
      let long : field_len h.version * h.count ≤ length fields_part = omega (arith, part_length) in
      ap (λ (n : ℕ). sizes h.version n fields_part) part_count
      ∙ sym (sizes_alone h.version h.count fields_part (drop (fields_end h - header_len h.version) (drop (header_len h.version) f)) long)
      ∙ ap (sizes h.version h.count) (sym parts)
