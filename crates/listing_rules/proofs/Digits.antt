-- Decimal digits, one by one from the last.
use Prim.Native.Nat.{ℕ, zero, suc, ◌-◌, ◌/◌, ◌%◌, ◌^◌, ◌≤◌, ◌<◌}
use mathlib.Core.Path.{◌≡◌, refl, ap}
use mathlib.Core.List.{List, [], ◌∷◌, ◌++◌}
use native.Mathlib.Omega.{arith}
use native.Mathlib.Nat.{pow-suc, pow-zero}
use Rattle.listing_rules.specs.Text.{digit, digits, decimal}

-- digits that are there do not depend on how many may be
enough : (k j x : ℕ) → x ≤ k → x ≤ j → digits k x ≡ digits j x
enough zero zero x h g = refl
enough zero (suc j) zero h g = refl
enough zero (suc j) (suc x) h g = absurd (omega arith)
enough (suc k) zero zero h g = refl
enough (suc k) zero (suc x) h g = absurd (omega arith)
enough (suc k) (suc j) zero h g = refl
enough (suc k) (suc j) (suc x) h g = ap (λ (l : List ℕ). l ++ (digit (suc x % 10) ∷ [])) (enough k j (suc x / 10) (omega arith) (omega arith))

-- all digits of a number, none for 0
abbrev pub all_of : ℕ → List ℕ
all_of x = digits x x

pub last_digit : (x : ℕ) → (x ≡ 0 → ⊥) → all_of x ≡ all_of (x / 10) ++ (digit (x % 10) ∷ [])
last_digit zero h = absurd (h refl)
last_digit (suc x) h = ap (λ (l : List ℕ). l ++ (digit (suc x % 10) ∷ [])) (enough x (suc x / 10) (suc x / 10) (omega arith) (omega arith))

pub decimal_all : (x : ℕ) → decimal x ≡ all_of (x / 10) ++ (digit (x % 10) ∷ [])
unfolding decimal
decimal_all x = ap (λ (l : List ℕ). l ++ (digit (x % 10) ∷ [])) (enough x (x / 10) (x / 10) (omega arith) (omega arith))

-- i digits hold what is left
pub fewer : (rest i : ℕ) → rest < 10 ^ i → (rest ≡ 0 → ⊥) → (1 ≤ i) × (rest / 10 < 10 ^ (i - 1))
fewer zero zero h z = absurd (z refl)
fewer (suc rest) zero h z = absurd (omega (arith, pow-zero 10))
fewer rest (suc i) h z =
    let e : suc i - 1 ≡ i = omega arith in
    (omega arith, rw e (omega (arith, pow-suc 10 i)))
