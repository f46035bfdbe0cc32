-- When a float and a bit pattern are finite.
use Prim.Native.Nat.{ℕ, zero, suc, ◌+◌, ◌/◌, ◌%◌}
use mathlib.Core.Path.{◌≡◌, refl, sym, ◌∙◌}
use mathlib.Core.Bool.{Bool, true, false, not, cond}
use lib.Dec.{T, eqb}
use borrow.Author.Tests.{not-true}
use lib.Ieee.{Float, nan, inf, fin, binary32, add, mul, odd, of_fields, of_bits, nan_bits}
use Rattle.std.specs.Float.{float_is_finite}
use Rattle.mlg_rules.specs.Shown.{finite}

-- as the library's test has it
pub finite_is : (x : Float) → float_is_finite x ≡ finite x
unfolding float_is_finite finite
finite_is nan = refl
finite_is (inf s) = refl
finite_is (fin s m e) = refl

finite_odd : (d : ℕ) (s : Bool) (q k l : ℕ) → finite (odd d s q k l) ≡ true
unfolding odd finite
finite_odd d s zero k l = refl
finite_odd d s (suc q) k l = refl

by_test : (b c s : Bool) (d q k l : ℕ) → not b ≡ finite (cond b (cond c (inf s) nan) (odd d s q k l))
unfolding finite
by_test true true s d q k l = refl
by_test true false s d q k l = refl
by_test false c s d q k l = sym (finite_odd d s q k l)

fields : (s : Bool) (x t : ℕ) → not (eqb x 255) ≡ finite (of_fields binary32 s x t)
unfolding of_fields finite
fields s zero t = sym (finite_odd 24 s t 0 149)
fields s (suc x) t = by_test (eqb (suc x) 255) (eqb t 0) s 24 (8388608 + t) x 149

pub finite_pattern : (b : ℕ) → not (eqb (b % 2147483648 / 8388608) 255) ≡ finite (of_bits binary32 b)
unfolding of_bits
finite_pattern b = fields _ (b % 2147483648 / 8388608) (b % 8388608)

pub no_nan : (b : ℕ) → finite (of_bits binary32 b) ≡ true → T (not (nan_bits binary32 b))
unfolding nan_bits
no_nan b h = rw (not-true (eqb (b % 2147483648 / 8388608) 255) (finite_pattern b ∙ h)) tt

-- a finite sum has finite parts
pub sum_finite : (x t : Float) → finite (add binary32 x t) ≡ true → (finite x ≡ true) × (finite t ≡ true)
unfolding add finite
sum_finite nan t h = (h, let z : ◌≡◌ {A = Bool} false true = h in cc)
sum_finite (inf s) nan h = (h, h)
sum_finite (inf true) (inf true) h = (h, h)
sum_finite (inf true) (inf false) h = (h, h)
sum_finite (inf false) (inf true) h = (h, h)
sum_finite (inf false) (inf false) h = (h, h)
sum_finite (inf s) (fin t n d) h = (h, refl)
sum_finite (fin s m e) nan h = (refl, h)
sum_finite (fin s m e) (inf t) h = (refl, h)
sum_finite (fin s m e) (fin t n d) h = (refl, refl)

by_zero : (b s : Bool) → finite (cond b nan (inf s)) ≡ true → false ≡ true
unfolding finite
by_zero true s h = h
by_zero false s h = h

-- a finite product has a finite second factor
pub product_finite : (x s : Float) → finite (mul binary32 x s) ≡ true → finite s ≡ true
unfolding mul finite
product_finite nan s h = let z : ◌≡◌ {A = Bool} false true = h in cc
product_finite (inf s) nan h = h
product_finite (inf s) (inf t) h = h
product_finite (inf s) (fin t n d) h = refl
product_finite (fin s m e) nan h = h
product_finite (fin s m e) (inf t) h = by_zero (eqb m 0) _ h
product_finite (fin s m e) (fin t n d) h = refl
