-- A number's digits, as `io::decimal` hands them out.
use Rattle.std.specs.Prelude.{ℕ, zero, suc, ◌-◌, ◌/◌, ◌%◌, ◌^◌, ◌≤◌, ◌<◌}
use mathlib.Core.Path.{◌≡◌, sym}
use native.Mathlib.Omega.{arith}
use native.Mathlib.Nat.{pow-suc, pow-zero}
use borrow.Author.Tests.{lt-ltb}
use Rattle.io.specs.Digits.{hex_digit_ascii, last_digits, IsDigitCount}
use Rattle.listing_rules.specs.Text.{digit, decimal}
use Rattle.listing_rules.proofs.Digits.{all_of, last_digit, decimal_all}

digit_is : (x : ℕ) → hex_digit_ascii (x % 10) ≡ digit (x % 10)
digit_is x = let h : x % 10 < 10 = omega arith in rw (lt-ltb (x % 10) 10 h)

power_some : (k : ℕ) → 1 ≤ 10 ^ k
power_some zero = omega (arith, pow-zero 10)
power_some (suc k) = omega (arith, pow-suc 10 k, power_some k)

-- a digit less
tenth : (k x : ℕ) → (1 < k → 10 ^ (k - 1) ≤ x) → 1 ≤ k - 1 → 10 ^ (k - 1 - 1) ≤ x / 10
tenth zero x g h = absurd (omega arith)
tenth (suc zero) x g h = absurd (omega arith)
tenth (suc (suc k)) x g h =
    let e : suc (suc k) - 1 ≡ suc k = omega arith in
    let d : suc (suc k) - 1 - 1 ≡ k = omega arith in
    let p = rw e at (g (omega arith)) in
    rw d (omega (arith, pow-suc 10 k, p))

-- all digits of a number
last_all : (k x : ℕ) → x < 10 ^ k → (1 ≤ k → 10 ^ (k - 1) ≤ x) → last_digits 10 k x ≡ all_of x
last_all zero x h g = let z : x ≡ 0 = omega (arith, pow-zero 10) in rw z
last_all (suc k) x h g =
    let e : suc k - 1 ≡ k = omega arith in
    let p = rw e at (g (omega arith)) in
    let z : x ≡ 0 → ⊥ = λ w. omega (arith, power_some k) in
    let t : 1 ≤ k → 10 ^ (k - 1) ≤ x / 10 = rw e at (tenth (suc k) x (λ w. g (omega arith))) in
    rw (last_all k (x / 10) (omega (arith, pow-suc 10 k)) t, digit_is x) (sym (last_digit x z))

pub decimal_is : (k x : ℕ) → IsDigitCount 10 1 x k → last_digits 10 k x ≡ decimal x
decimal_is zero x h = absurd (omega arith)
decimal_is (suc k) x h =
    let e : suc k - 1 ≡ k = omega arith in
    let t : 1 ≤ k → 10 ^ (k - 1) ≤ x / 10 = rw e at (tenth (suc k) x h.2) in
    rw (last_all k (x / 10) (omega (arith, pow-suc 10 k)) t, digit_is x) (sym (decimal_all x))
