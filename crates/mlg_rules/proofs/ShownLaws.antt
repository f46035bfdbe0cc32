-- Laws of shown values.
use Prim.Native.Nat.{ℕ, ◌<◌}
use mathlib.Core.Path.{◌≡◌, refl, ap, ◌∙◌}
use mathlib.Core.Bool.{Bool, true, false}
use mathlib.Core.List.{List}
use native.Mathlib.Omega.{arith}
use lib.Dec.{ltb}
use lib.Ieee.{Float, binary32, of_bits, of_int}
use borrow.Author.Tests.{ltb-true, ltb-false, eq-eqb, ne_eqb, not-false}
use Rattle.wire.specs.Order.{◌if◌else◌}
use Rattle.wire.proofs.Orders.{if_yes, if_no, not_yes, not_no, else_none, if_zero}
use Rattle.wire.specs.BigEndian.{be_of}
use Rattle.mlg_rules.specs.Types.{F32}
use Rattle.mlg_rules.specs.Field.{type_of}
use Rattle.mlg_rules.specs.Raw.{value_number, raw_of}
use Rattle.wire.specs.Refusals.{checked}
use Rattle.mlg_rules.specs.Shown.{shows, finite, raw_float, shifted, scaled, scaled_number, apply_of, shown_number, shown_value_of}
use Rattle.mlg_rules.specs.Shown.{scaling_in, parts_number}
use Rattle.mlg_rules.proofs.Finite.{sum_finite, product_finite}
use Rattle.mlg_rules.specs.declared.Scaling.{Scaling}

-- the same number in any case
pub either : (n : ℕ) (b : Bool) (r : ℕ) → n ≡ r → n ≡ (n if b else r)
unfolding ◌if◌else◌
either n true r e = refl
either n false r e = e

module _ (s : Scaling) (x : Float) where
  pub by_raw : finite x ≡ false → 30 ≡ scaled_number s x
  unfolding scaled_number
  by_raw h = if_yes 30 _ _ (not_yes _ h)

  pub by_transform : finite s.transform ≡ false → 30 ≡ scaled_number s x
  unfolding scaled_number
  by_transform h = either 30 _ _ (if_yes 30 _ _ (not_yes _ h))

  pub by_sum : finite (shifted s x) ≡ false → 30 ≡ scaled_number s x
  unfolding scaled_number
  by_sum h = either 30 _ _ (either 30 _ _ (if_yes 30 _ _ (not_yes _ h)))

  pub by_scale : finite s.scale ≡ false → 30 ≡ scaled_number s x
  unfolding scaled_number
  by_scale h = either 30 _ _ (either 30 _ _ (either 30 _ _ (if_yes 30 _ _ (not_yes _ h))))

  pub by_product : finite (scaled s x) ≡ false → 30 ≡ scaled_number s x
  unfolding scaled_number
  by_product h = either 30 _ _ (either 30 _ _ (either 30 _ _ (either 30 _ _ (if_yes 30 _ _ (not_yes _ h)))))

  -- where sum and product are finite, all is
  pub all_finite : finite (shifted s x) ≡ true → finite (scaled s x) ≡ true → 0 ≡ scaled_number s x
  unfolding scaled_number
  all_finite h k =
      let p = sum_finite x s.transform h in
      if_no 30 _ _ _ (not_no _ p.0)
      (if_no 30 _ _ _ (not_no _ p.1)
      (if_no 30 _ _ _ (not_no _ h)
      (if_no 30 _ _ _ (not_no _ (product_finite (shifted s x) s.scale k))
      (if_no 30 _ _ _ (not_no _ k) refl))))

-- what holds where no number refuses
pub parts_stand : (d : List ℕ) → parts_number d ≡ 0
    → (shows (type_of d) ≡ true) × ((finite (scaling_in d).transform ≡ true) × (finite (scaling_in d).scale ≡ true))
unfolding parts_number
parts_stand d e =
    let p = if_zero 29 _ _ e in
    let q = if_zero 29 _ _ p.1 in
    (not-false _ p.0, (not-false _ q.0, not-false _ (if_zero 29 _ _ q.1).0))

module _ (v : ℕ) (d b : List ℕ) (ok : value_number v d b ≡ 0) where
  -- a field that is refused alone has no shown value
  by_parts : (t u w : Bool) → shows (type_of d) ≡ t → finite (scaling_in d).transform ≡ u → finite (scaling_in d).scale ≡ w
      → (n : ℕ) → n ≡ parts_number d → (n ≡ 0 → ⊥) → n ≡ shown_number v d b
  unfolding shown_number parts_number ◌if◌else◌
  by_parts false u w p q r n e h = (rw p at e) ∙ else_none _ _ _ _ refl ok (if_yes 30 _ _ (not_yes _ p))
  by_parts true false w p q r n e h = (rw (p, q) at e) ∙ else_none _ _ _ _ refl ok (if_no 30 _ _ _ (not_no _ p) (by_transform _ _ q))
  by_parts true true false p q r n e h = (rw (p, q, r) at e) ∙ else_none _ _ _ _ refl ok (if_no 30 _ _ _ (not_no _ p) (by_scale _ _ r))
  by_parts true true true p q r n e h = absurd (h (rw (p, q, r) at e))

  pub no_scaling : (n : ℕ) → n ≡ parts_number d → (n ≡ 0 → ⊥) → n ≡ shown_number v d b
  no_scaling = by_parts _ _ _ refl refl refl

  -- where it has them, its shown value is theirs
  pub applied_number : shows (type_of d) ≡ true → scaled_number (scaling_in d) (raw_float (type_of d) b) ≡ shown_number v d b
  unfolding shown_number
  applied_number h = else_none (value_number v d b) _ _ (value_number v d b) refl ok (if_no 30 _ _ _ (not_no _ h) refl)

  pub shown_applied : shows (type_of d) ≡ true → apply_of (scaling_in d) (raw_float (type_of d) b) ≡ shown_value_of v d b
  unfolding shown_value_of apply_of
  shown_applied h = ap (λ (n : ℕ). checked n (scaled (scaling_in d) (raw_float (type_of d) b))) (applied_number h)

-- raw values as f32
pub float_bits : (t : ℕ) (b : List ℕ) → t ≡ F32 → of_bits binary32 (be_of b) ≡ raw_float t b
unfolding raw_float
float_bits t b e = rw (eq-eqb t 7 e)

pub float_whole : (t : ℕ) (b : List ℕ) → (t ≡ F32 → ⊥) → of_int binary32 (raw_of t b) ≡ raw_float t b
unfolding raw_float
float_whole t b h = rw (ne_eqb t 7 h)

-- the shown types but F32
shown_by : (t : ℕ) → shows t ≡ true → (t ≡ F32 → ⊥) → (x : Bool) → ltb t 4 ≡ x → t < 4
unfolding shows
shown_by t h k true e = ltb-true t 4 e
shown_by t h k false e =
    let l = ltb-false t 4 e in
    let n : shows t ≡ false
    = rw (ne_eqb t 0 (λ e. omega arith), ne_eqb t 1 (λ e. omega arith), ne_eqb t 2 (λ e. omega arith), ne_eqb t 3 (λ e. omega arith), ne_eqb t 7 k) in
    let z : ◌≡◌ {A = ℕ} 0 1 = cc in
    absurd (omega arith)

pub shown_small : (t : ℕ) → shows t ≡ true → (t ≡ F32 → ⊥) → t < 4
shown_small t h k = shown_by t h k (ltb t 4) refl
