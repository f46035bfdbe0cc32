-- What a raw value that is not refused tells.
use Prim.Native.Nat.{ℕ}
use mathlib.Core.Path.{◌≡◌, refl}
use mathlib.Core.Bool.{false, not}
use mathlib.Core.List.{List}
use native.Mathlib.Omega.{arith}
use borrow.Author.Tests.{eqb-true, not-false}
use lib.Dec.{eqb}
use lib.IntN.{ℤ}
use lib.ListN.{length}
use Rattle.std.proofs.Common.{Result, Ok, Err}
use Rattle.wire.proofs.RefusalLaws.{stands}
use Rattle.wire.proofs.Orders.{if_zero, else_zero}
use Rattle.mlg_rules.specs.Layout.{field_len}
use Rattle.mlg_rules.specs.Field.{type_of, field_size}
use Rattle.mlg_rules.specs.Raw.{value_field_number, value_number, raw_of, raw_value_of}
use Rattle.wire.specs.declared.refusal.Refusal.{Refusal}

raw_given : (v : ℕ) (d b : List ℕ) → value_number v d b ≡ 0 → Ok (raw_of (type_of d) b) ≡ raw_value_of v d b
unfolding raw_value_of
raw_given v d b e = stands (value_number v d b) _ _ e refl

pub raw_is : (v : ℕ) (d b : List ℕ) (r : Result ℤ Refusal) (z : ℤ) → value_number v d b ≡ 0 → r ≡ raw_value_of v d b → r ≡ Ok z
    → z ≡ raw_of (type_of d) b
raw_is v d b r z e p q = let s = raw_given v d b e in cc

pub raw_not_refused : (v : ℕ) (d b : List ℕ) (r : Result ℤ Refusal) → value_number v d b ≡ 0 → r ≡ raw_value_of v d b → ((z : ℤ) → r ≡ Ok z → ⊥) → ⊥
raw_not_refused v d b (Ok z) e p k = k z refl
raw_not_refused v d b (Err n) e p k = let s = raw_given v d b e in let w : ◌≡◌ {A = ℕ} 0 1 = cc in omega arith

pub equal : (a b : ℕ) → not (eqb a b) ≡ false → a ≡ b
equal a b e = eqb-true a b (not-false (eqb a b) e)

pub value_lengths : (d b : List ℕ) → value_number 2 d b ≡ 0 → (length d ≡ field_len 2) × (length b ≡ field_size d)
unfolding value_number value_field_number
value_lengths d b e =
    let f = else_zero _ _ e in
    (equal _ _ (if_zero 22 _ _ f.0).0, equal _ _ (if_zero 22 _ _ f.1).0)
