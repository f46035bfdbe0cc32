-- What follows where no length refuses a header that is to be written, and that its body's number is then its fields'.
use Prim.Native.Nat.{ℕ, zero, suc, ◌+◌, ◌-◌, ◌/◌, ◌%◌, ◌≤◌, ◌<◌}
use mathlib.Core.Path.{◌≡◌, refl, sym, ap, ◌∙◌}
use mathlib.Core.Bool.{true, false, not}
use mathlib.Core.List.{List, [], ◌∷◌}
use native.Mathlib.Omega.{arith}
use borrow.Author.Tests.{ltb-false, eqb-true, eq-eqb, ne_eqb, lt-ltb, le-ltb}
use lib.Dec.{eqb, ltb}
use lib.ListN.{length, drop, length-append}
use lib.Seq.{drop-append_seam}
use Rattle.wire.specs.Order.{◌or_else◌}
use Rattle.wire.specs.Text.{text_len, zeros}
use Rattle.wire.proofs.Orders.{if_zero, if_yes, if_no, not_no, not-false}
use Rattle.wire.proofs.Texts.{zeros_append}
use Rattle.mlg_rules.specs.Layout.{header_len, field_len}
use Rattle.mlg_rules.specs.Area.{ended, area_of}
use Rattle.mlg_rules.specs.Fields.{fields_number, sizes}
use Rattle.mlg_rules.specs.Header.{fields_end, last_number, body_number}
use Rattle.mlg_rules.specs.Writing.{header_for, lengths_number}
use Rattle.mlg_rules.proofs.AreaLaws.{area_length}
use Rattle.mlg_rules.proofs.LayoutLaws.{fields_whole, fields_few, header_most}

pub record Fit (v : ℕ) (fields names info : List ℕ) : Type 0 where
  pub whole : length fields % field_len v ≡ 0
  pub few : length fields / field_len v ≤ 65535
  pub small : sizes v (length fields / field_len v) fields ≤ 65535
  pub file : header_len v + length fields + length (area_of names info) ≤ 4294967295
  pub text : length info ≤ text_len info

pub fit : (v : ℕ) (fields names info : List ℕ) → lengths_number v fields names info ≡ 0 → Fit v fields names info
unfolding lengths_number
fit v fields names info z =
    let a = if_zero 22 _ _ z in
    let b = if_zero 22 _ _ a.1 in
    let d = if_zero 22 _ _ b.1 in
    let e = if_zero 22 _ _ d.1 in
    let g = if_zero 27 _ _ e.1 in
    record {
      whole = eqb-true _ _ (not-false _ a.0);
      few = ltb-false _ _ b.0;
      small = ltb-false _ _ d.0;
      file = ltb-false _ _ e.0;
      text = ltb-false _ _ g.0;
    }

-- header, fields, names area, and info with its zero
pub file_most : (v : ℕ) (fields names info : List ℕ) → lengths_number v fields names info ≡ 0
    → header_len v + length fields + (length names + length (ended info)) ≤ 4294967295
file_most v fields names info z = omega (arith, (fit v fields names info z).file, area_length names info)

module _ (v time : ℕ) (fields names : List ℕ) where
  pub fields_end_lem : (info : List ℕ) → length fields % field_len v ≡ 0 → fields_end (header_for v time fields names info) ≡ header_len v + length fields
  unfolding fields_end header_for
  fields_end_lem info h = ap (λ (k : ℕ). header_len v + k) (fields_whole v (length fields) h)

  -- info has its zero
  some_zero : (b : ℕ) (bs : List ℕ) → zeros (ended (b ∷ bs)) ≡ 0 → ⊥
  some_zero b bs e = omega (arith, zeros_append (b ∷ bs) (0 ∷ []))

  start : (b : ℕ) (bs : List ℕ) → length fields % field_len v ≡ 0
      → drop (header_len v + length fields + length names - fields_end (header_for v time fields names (b ∷ bs))) (area_of names (b ∷ bs)) ≡ ended (b ∷ bs)
  unfolding area_of
  start b bs h =
      let e : header_len v + length fields + length names - fields_end (header_for v time fields names (b ∷ bs)) ≡ length names
      = omega (arith, fields_end_lem (b ∷ bs) h) in
      rw e (drop-append_seam names (ended (b ∷ bs)))

  same_size : (n : ℕ) → not (eqb n n) ≡ false
  same_size n = not_no _ (eq-eqb n n refl)

  last_none : (info : List ℕ) → 0 < header_len v → length fields % field_len v ≡ 0
      → 0 ≡ last_number (header_for v time fields names info) fields (area_of names info)
  unfolding last_number header_for
  last_none [] p h = if_no 23 _ _ 0 (same_size (sizes v (length fields / field_len v) fields)) (if_yes 0 _ _ (eq-eqb 0 0 refl))
  last_none (b ∷ bs) p h =
      let at = header_len v + length fields + length names - fields_end (header_for v time fields names (b ∷ bs)) in
      let k : eqb (zeros (drop at (area_of names (b ∷ bs)))) 0 ≡ false = rw (start b bs h) (ne_eqb _ _ (some_zero b bs)) in
      if_no 23 _ _ 0 (same_size (sizes v (length fields / field_len v) fields))
      (if_no 0 _ _ 0 (ne_eqb _ _ (λ (z : header_len v + length fields + length names ≡ 0). omega arith))
      (if_no 28 _ _ 0 k refl))

  else_same : (a b : ℕ) → 0 ≡ b → a ≡ (a or_else b)
  unfolding ◌or_else◌
  else_same zero b e = e
  else_same (suc a) b e = refl

  fields_same : (info : List ℕ) → 0 < header_len v → length fields % field_len v ≡ 0
      → let h = header_for v time fields names info in
      fields_number v (fields_end h) (area_of names info) (length fields / field_len v) fields
      ≡ (fields_number h.version (fields_end h) (area_of names info) h.count fields or_else last_number h fields (area_of names info))
  unfolding header_for
  fields_same info p h = else_same _ _ (last_none info p h)

  -- the body's number is the fields'
  pub body_is : (info : List ℕ) → 0 < header_len v → length fields % field_len v ≡ 0
      → fields_number v (header_len v + length fields) (area_of names info) (length fields / field_len v) fields
      ≡ body_number (header_for v time fields names info) fields (area_of names info)
  unfolding body_number
  body_is info p h =
      ap (λ (e : ℕ). fields_number v e (area_of names info) (length fields / field_len v) fields) (sym (fields_end_lem info h))
      ∙ fields_same info p h

pub ended_most : (l : List ℕ) → length (ended l) ≤ length l + 1
ended_most [] = omega arith
ended_most (b ∷ l) = omega (arith, length-append l (0 ∷ []))

-- the file's length, as it is tested
module _ (v : ℕ) (f n i : List ℕ) (r hl : ℕ) (er : r ≡ length (ended i)) (eh : hl ≡ header_len v) (few : length f / field_len v ≤ 65535) where
  pub too_long_lem : 4294967295 - (hl + length f) < length n + r → ltb 4294967295 (header_len v + length f + length (area_of n i)) ≡ true
  too_long_lem h =
      lt-ltb 4294967295 (header_len v + length f + length (area_of n i)) (omega (arith, area_length n i, fields_few v (length f) few, header_most v))

  pub not_long : length n + r ≤ 4294967295 - (hl + length f) → ltb 4294967295 (header_len v + length f + length (area_of n i)) ≡ false
  not_long h = le-ltb 4294967295 (header_len v + length f + length (area_of n i)) (omega (arith, area_length n i, fields_few v (length f) few, header_most v))
