-- Laws of raw values.
use Prim.Native.Nat.{ℕ, zero, suc, ◌*◌, ◌-◌, ◌^◌, ◌≤◌, ◌<◌}
use mathlib.Core.Path.{◌≡◌, refl, ap, ◌∙◌}
use mathlib.Core.Bool.{Bool, true, false, cond}
use mathlib.Core.List.{List, [], ◌∷◌}
use native.Mathlib.Omega.{arith}
use native.Mathlib.Nat.{pow-suc}
use borrow.Author.Tests.{ltb-true, ltb-false, ne_eqb, eqb-true, not-false}
use lib.Dec.{ltb, T, le→leb, lt→ltb}
use lib.ListN.{length, get_or, take}
use lib.Seq.{take_all}
use lib.IntN.{ℤ, pos, negsuc}
use lib.Signed.{mag}
use lib.Ieee.{binary32, in_float}
use Rattle.wire.specs.BigEndian.{be_of}
use Rattle.wire.specs.Sign.{signed_of, twos}
use Rattle.wire.proofs.Numbers.{Bytes, be_below}
use Rattle.wire.proofs.Signs.{twos_low, twos_high}
use Rattle.wire.proofs.Orders.{if_zero, else_zero}
use Rattle.mlg_rules.specs.Types.{size_of, S08, S16, S32, S64}
use Rattle.mlg_rules.specs.Field.{field_size}
use Rattle.mlg_rules.specs.Raw.{value_number, raw_of, signed_type}

-- a signed type's whole number, by another reading x of its bytes
pub raw_signed : (t k : ℕ) (b : List ℕ) (x : ℕ) → t ≡ k → signed_type k ≡ true → x ≡ be_of b → signed_of (8 * size_of k) x ≡ raw_of t b
unfolding raw_of
raw_signed t k b x e s h = rw (e, s, h)

-- every other type's
pub raw_plain : (t : ℕ) (b : List ℕ) → (t ≡ S08 → ⊥) → (t ≡ S16 → ⊥) → (t ≡ S32 → ⊥) → (t ≡ S64 → ⊥) → raw_of t b ≡ pos (be_of b)
unfolding raw_of signed_type
raw_plain t b h i j k = rw (ne_eqb t 1 h, ne_eqb t 3 i, ne_eqb t 5 j, ne_eqb t 6 k)

-- at most n bytes, read as the first n
pub whole : (n : ℕ) (b : List ℕ) → length b ≤ n → be_of (take n b) ≡ be_of b
whole n b h = ap be_of (take_all n b h)

-- one byte
pub single : (b : List ℕ) → length b ≡ 1 → get_or b 0 0 ≡ be_of b
single [] h = refl
single (x ∷ []) h = omega arith
single (x ∷ y ∷ b) h = absurd (omega arith)

-- what holds where no number refuses
pub sized : (v : ℕ) (d b : List ℕ) → value_number v d b ≡ 0 → length b ≡ field_size d
unfolding value_number
sized v d b e = eqb-true _ _ (not-false _ (if_zero 22 _ _ (else_zero _ _ e).1).0)

twos_by : (half x : ℕ) → x < 2 * half → (t : Bool) → ltb x half ≡ t → mag (twos half x) < 2 * half
twos_by half x h true k = rw (twos_low half x (ltb-true x half k)) h
twos_by half x h false k = rw (twos_high half x (ltb-false x half k) h) (omega (arith, ltb-false x half k))

twos_mag : (half x : ℕ) → x < 2 * half → mag (twos half x) < 2 * half
twos_mag half x h = twos_by half x h (ltb x half) refl

-- a raw value lies within the width of its bytes
raw_by : (signed : Bool) (k : ℕ) (b : List ℕ) → length b ≡ k → Bytes b → mag (cond signed (signed_of (8 * k) (be_of b)) (pos (be_of b))) < 2 ^ (8 * k)
unfolding twos
raw_by false k b e g = rw e at (be_below b g)
raw_by true zero [] e g = omega arith
raw_by true zero (x ∷ b) e g = absurd (omega arith)
raw_by true (suc k) b e g =
    let w : 8 * suc k ≡ suc (8 * suc k - 1) = omega arith in
    let p : 2 ^ (8 * suc k) ≡ 2 * 2 ^ (8 * suc k - 1) = ap (λ (n : ℕ). 2 ^ n) w ∙ pow-suc 2 (8 * suc k - 1) ∙ omega arith in
    omega (arith, p, twos_mag (2 ^ (8 * suc k - 1)) (be_of b) (omega (arith, p, rw e at (be_below b g))))

pub raw_below : (t : ℕ) (b : List ℕ) → length b ≡ size_of t → Bytes b → mag (raw_of t b) < 2 ^ (8 * size_of t)
unfolding raw_of
raw_below t b e g = raw_by (signed_type t) (size_of t) b e g

-- and that of a type of at most 16 bits
pub raw_small : (t : ℕ) (b : List ℕ) → t < 4 → length b ≡ size_of t → Bytes b → mag (raw_of t b) < 65536
unfolding size_of
raw_small zero b h e g = omega (arith, raw_below 0 b e g)
raw_small (suc zero) b h e g = omega (arith, raw_below 1 b e g)
raw_small (suc (suc zero)) b h e g = omega (arith, raw_below 2 b e g)
raw_small (suc (suc (suc zero))) b h e g = omega (arith, raw_below 3 b e g)
raw_small (suc (suc (suc (suc t)))) b h e g = absurd (omega arith)

-- and so it is an f32 exactly
pub in_float_lem : (z : ℤ) → mag z < 65536 → T (in_float binary32 z)
unfolding in_float
in_float_lem (pos n) h = le→leb n (2 ^ 24) (omega arith)
in_float_lem (negsuc n) h = lt→ltb n (2 ^ 24) (omega arith)
