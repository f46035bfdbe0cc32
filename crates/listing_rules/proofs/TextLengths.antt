-- How long numbers get as text.
use Prim.Native.Nat.{ℕ, zero, suc, ◌+◌, ◌-◌, ◌*◌, ◌/◌, ◌%◌, ◌^◌, ◌≤◌, ◌<◌}
use mathlib.Core.Path.{◌≡◌, refl, sym, ap, ◌∙◌}
use mathlib.Core.Bool.{Bool, true, false}
use mathlib.Core.List.{List, [], ◌∷◌}
use native.Mathlib.Omega.{arith}
use native.Mathlib.Nat.{pow-suc}
use borrow.Author.Tests.{eq-eqb}
use lib.ListN.{length, length-append}
use lib.IntN.{ℤ, pos, negsuc}
use lib.Pow.{pow-add}
use lib.Signed.{mag}
use Rattle.wire.proofs.Numbers.{Bytes}
use Rattle.wire.proofs.Orders.{if_zero, else_zero}
use Rattle.mlg_rules.specs.Types.{size_of}
use Rattle.mlg_rules.specs.Field.{type_of, type_number}
use Rattle.mlg_rules.specs.Raw.{value_field_number, value_number, raw_of}
use Rattle.mlg_rules.proofs.RawLaws.{sized, raw_below}
use Rattle.listing_rules.specs.Text.{digit, digits, decimal, integer}
use Rattle.listing_rules.specs.Lines.{value_text}
use Rattle.listing_rules.proofs.Digits.{fewer}

-- a number below 10 ^ k has at most k digits
digits_short : (j k x : ℕ) → x < 10 ^ k → length (digits j x) ≤ k
digits_short zero k x h = omega arith
digits_short (suc j) k zero h = omega arith
digits_short (suc j) k (suc x) h =
    let f = fewer (suc x) k h (λ z. omega arith) in
    omega (arith, f.0, length-append (digits j (suc x / 10)) (digit (suc x % 10) ∷ []), digits_short j (k - 1) (suc x / 10) f.1)

pub decimal_short : (x k : ℕ) → x < 10 ^ suc k → length (decimal x) ≤ suc k
unfolding decimal
decimal_short x k h =
    let q : x / 10 < 10 ^ k = omega (arith, pow-suc 10 k) in
    omega (arith, length-append (digits x (x / 10)) (digit (x % 10) ∷ []), digits_short x k (x / 10) q)

integer_short : (z : ℤ) (k : ℕ) → mag z + 1 < 10 ^ suc k → length (integer z) ≤ suc k + 1
unfolding integer
integer_short (pos n) k h = omega (arith, decimal_short n k (omega arith))
integer_short (negsuc n) k h = omega (arith, decimal_short (suc n) k (omega arith))

-- k bytes hold numbers of at most 3 * k digits
byte_digits : (k : ℕ) → 2 ^ (8 * suc k) < 10 ^ (3 * suc k)
byte_digits zero = omega arith
byte_digits (suc k) =
    let a : 2 ^ (8 * suc (suc k)) ≡ 2 ^ (8 * suc k) * 256 = ap (λ (n : ℕ). 2 ^ n) (omega arith) ∙ pow-add 2 (8 * suc k) 8 in
    let b : 10 ^ (3 * suc (suc k)) ≡ 10 ^ (3 * suc k) * 1000 = ap (λ (n : ℕ). 10 ^ n) (omega arith) ∙ pow-add 10 (3 * suc k) 3 in
    omega (arith, a, b, byte_digits k)

raw_short : (z : ℤ) (k : ℕ) → mag z < 2 ^ (8 * suc k) → length (integer z) + 1 ≤ 5 * suc k
raw_short z k h =
    let e : 3 * suc k ≡ suc (3 * k + 2) = omega arith in
    let p : mag z + 1 < 10 ^ suc (3 * k + 2) = rw (← e) (omega (arith, byte_digits k)) in
    omega (arith, integer_short z (3 * k + 2) p)

-- a type has bytes
some_bytes : (v : ℕ) (d b : List ℕ) → value_number v d b ≡ 0 → size_of (type_of d) ≡ 0 → ⊥
unfolding value_number value_field_number type_number
some_bytes v d b e z =
    let t = (if_zero 22 _ _ (else_zero _ _ e).0).1 in
    let w : ◌≡◌ {A = Bool} true false = sym (eq-eqb (size_of (type_of d)) 0 z) ∙ (if_zero 23 _ _ t).0 in
    let n : ◌≡◌ {A = ℕ} 0 1 = cc in
    omega arith

size_by : (k : ℕ) (z : ℤ) (n : ℕ) → n ≡ k → (k ≡ 0 → ⊥) → mag z < 2 ^ (8 * k) → length (integer z) + 1 ≤ 5 * n
size_by zero z n e h m = absurd (h refl)
size_by (suc k) z n e h m = rw e (raw_short z k m)

-- a raw value's text has at most five bytes for each of its bytes
pub value_short : (v : ℕ) (d b : List ℕ) → value_number v d b ≡ 0 → Bytes b → length (value_text d b) ≤ 5 * length b
unfolding value_text
value_short v d b e g =
    let s : length b ≡ size_of (type_of d) = sized v d b e in
    let k = size_by (size_of (type_of d)) (raw_of (type_of d) b) (length b) s (some_bytes v d b e) (raw_below (type_of d) b s g) in
    omega arith
