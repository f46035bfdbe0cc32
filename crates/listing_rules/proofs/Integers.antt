-- An integer's sign and magnitude.
use Prim.Native.Nat.{ℕ, ◌^◌, ◌<◌}
use mathlib.Core.Path.{◌≡◌, refl}
use mathlib.Core.Bool.{Bool, true, false}
use mathlib.Core.List.{◌++◌}
use native.Mathlib.Omega.{arith}
use borrow.Author.Tests.{ltb-true}
use lib.IntN.{ℤ, pos, negsuc, nat_abs}
use lib.Signed.{lt_z}
use mir.Syntax.{w64}
use mir.Val.{SFits, to_z, of_z}
use mir.ValLaws.{to_z-of_z}
use Rattle.listing_rules.specs.Text.{ascii, decimal, integer}

-- the code's test and difference on an i64
abbrev as_read : ℤ → ℤ
as_read z = to_z w64 (of_z w64 z)

pub record Negative (z : ℤ) : Type 0 where
  pub less : ℕ
  pub is : z ≡ negsuc less
  pub small : less < 2 ^ 63

pub negative : (z : ℤ) → SFits w64 z → lt_z (as_read z) (pos 0) ≡ true → Negative z
negative (pos n) f h = absurd (omega (arith, ltb-true n 0 (rw (to_z-of_z w64 (pos n) f) at h)))
negative (negsuc n) f h = record { less = n; is = refl; small = f.sfits }

pub record Positive (z : ℤ) : Type 0 where
  pub size : ℕ
  pub is : z ≡ pos size
  pub small : size < 2 ^ 63

pub positive : (z : ℤ) → SFits w64 z → lt_z (as_read z) (pos 0) ≡ false → Positive z
positive (pos n) f h = record { size = n; is = refl; small = f.sfits }
positive (negsuc n) f h = absurd (let k : ◌≡◌ {A = Bool} true false = rw (to_z-of_z w64 (negsuc n) f) at h in let w : ◌≡◌ {A = ℕ} 0 1 = cc in omega arith)

module _ (z : ℤ) (f : SFits w64 z) (g : Negative z) where
  pub negative_text : (m : ℕ) → m ≡ nat_abs (as_read z) → ascii "-" ++ decimal m ≡ integer z
  unfolding integer
  negative_text m e = rw (e, to_z-of_z w64 z f, g.is)

module _ (z : ℤ) (f : SFits w64 z) (g : Positive z) where
  pub positive_text : (m : ℕ) → m ≡ nat_abs (as_read z) → decimal m ≡ integer z
  unfolding integer
  positive_text m e = rw (e, to_z-of_z w64 z f, g.is)
