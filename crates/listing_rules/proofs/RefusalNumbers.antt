-- The readers' numbers are at most 28.
use Prim.Native.Nat.{ℕ, zero, suc, ◌≤◌}
use mathlib.Core.Path.{◌≡◌, refl}
use mathlib.Core.Bool.{Bool, true, false}
use mathlib.Core.List.{List, [], ◌∷◌}
use native.Mathlib.Omega.{arith}
use borrow.Author.Tests.{leb-true}
use lib.Dec.{leb}
use lib.ListN.{take, drop}
use Rattle.wire.specs.Order.{◌if◌else◌, ◌or_else◌}
use Rattle.std.proofs.Common.{Err}
use Rattle.wire.specs.Refusals.{code, refusal_of, checked}
use Rattle.wire.specs.declared.refusal.Refusal.{Refusal}
use Rattle.wire.specs.Log.{judged}
use Rattle.mlg_rules.specs.Layout.{field_len}
use Rattle.mlg_rules.specs.Field.{type_number}
use Rattle.mlg_rules.specs.Fields.{texts_number, names_number, field_number, fields_number}
use Rattle.mlg_rules.specs.Header.{fields_end, name_number, places_number, last_number, body_number}
use Rattle.mlg_rules.specs.Header.{read_header_number, read_header_of, numbers_of, fields_from, area_in}
use Rattle.mlg_rules.specs.Block.{last_of, rest_number, parts_of, block_of, place_number, read_block_of}
use Rattle.mlg_rules.specs.declared.Header.{Header}
use Rattle.mlg_rules.specs.declared.Block.{Block}
use Rattle.mlg_rules.specs.declared.Block.TheVariants.{Data, Mark, End, Refused}

-- a number of at most 28, also told by the refusal that has it
record Most (n : ℕ) : Type 0 where
  at_most : n ≤ 28
  told : (n ≡ 0 → ⊥) → code (refusal_of n) ≤ 28

literal_most : (n : ℕ) → leb n 28 ≡ true → leb (code (refusal_of n)) 28 ≡ true → Most n
literal_most n h k = record { at_most = leb-true n 28 h; told = λ z. leb-true _ 28 k }

zero_most : Most 0
zero_most = record { at_most = omega arith; told = λ z. absurd (z refl) }

if_most : (n : ℕ) (b : Bool) (r : ℕ) → Most n → Most r → Most (n if b else r)
unfolding ◌if◌else◌
if_most n true r h k = h
if_most n false r h k = k

else_most : (a b : ℕ) → Most a → Most b → Most (a or_else b)
unfolding ◌or_else◌
else_most zero b h k = k
else_most (suc a) b h k = h

ruleset most = (zero_most, literal_most, if_most, else_most, refl)

-- a header's
field_most : (base : ℕ) (area d : List ℕ) → Most (field_number base area d)
unfolding field_number type_number texts_number names_number refusal_of
field_most base area d = search most depth 12

fields_most : (v base : ℕ) (area : List ℕ) (n : ℕ) (t : List ℕ) → Most (fields_number v base area n t)
fields_most v base area zero t = zero_most
fields_most v base area (suc n) t = else_most _ _ (field_most base area (take (field_len v) t)) (fields_most v base area n (drop (field_len v) t))

last_number_most : (h : Header) (fields area : List ℕ) → Most (last_number h fields area)
unfolding last_number refusal_of
last_number_most h fields area = search most depth 12

body_most : (h : Header) (fields area : List ℕ) → Most (body_number h fields area)
unfolding body_number
body_most h fields area = else_most _ _ (fields_most h.version (fields_end h) area h.count fields) (last_number_most h fields area)

header_most : (f : List ℕ) → Most (read_header_number f)
unfolding read_header_number name_number places_number refusal_of
header_most f =
    let h = numbers_of f in
    else_most _ _ (search most depth 12) (else_most _ _ (search most depth 12) (body_most h (fields_from f h) (area_in f h)))

by_number : (n : ℕ) (h : Header) (x : Refusal) → Most n → checked n h ≡ Err x → code x ≤ 28
unfolding checked
by_number zero h x k e = absurd (let v : ◌≡◌ {A = ℕ} 0 1 = cc in omega arith)
by_number (suc n) h x k e = let v : refusal_of (suc n) ≡ x = cc in rw v at (k.told (λ z. omega arith))

pub header_number : (f : List ℕ) (x : Refusal) → read_header_of f ≡ Err x → code x ≤ 28
unfolding read_header_of
header_number f x e = by_number (read_header_number f) (numbers_of f) x (header_most f) e

-- a block's
last_most : (k l : ℕ) (t : List ℕ) → Most (last_of k l t)
unfolding last_of refusal_of
last_most zero l t = search most depth 12
last_most (suc k) l t = search most depth 12

rest_most : (l : ℕ) (t : List ℕ) → Most (rest_number l t)
unfolding rest_number refusal_of
rest_most l t = if_most _ _ _ (literal_most 25 refl refl) (if_most _ _ _ (literal_most 20 refl refl) (last_most _ l t))

abbrev Small : Block → Type 0
Small (Data c m s r) = Unit
Small (Mark c m s k r) = Unit
Small End = Unit
Small (Refused x p) = x ≤ 28

judged_small : (x at : ℕ) (b : Block) → Most x → Small b → Small (judged Refused x at b)
unfolding judged
judged_small zero at b h k = k
judged_small (suc x) at b h k = h.at_most

parts_small : (k c at : ℕ) (t : List ℕ) → Small (parts_of k c at t)
unfolding parts_of
parts_small zero c at t = tt
parts_small (suc k) c at t = tt

block_small : (l c at : ℕ) (t : List ℕ) → Small (block_of l c at t)
unfolding block_of
block_small l c at [] = tt
block_small l c at (b ∷ t) = judged_small _ at _ (rest_most l (b ∷ t)) (parts_small b c at (b ∷ t))

at_small : (l n : ℕ) (f : List ℕ) (at : ℕ) → Small (read_block_of l n f at)
unfolding read_block_of place_number refusal_of
at_small l n f at = judged_small _ at _ (search most depth 12) (block_small l _ at (drop at f))

pub block_number : (l n : ℕ) (f : List ℕ) (at x p : ℕ) → read_block_of l n f at ≡ Refused x p → x ≤ 28
block_number l n f at x p e = rw e at (at_small l n f at)
