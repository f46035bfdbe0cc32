-- A chain of refusals gives each number exactly when the paper says.
use Rattle.std.proofs.Common.{◌≡◌, ℕ, Bool, true, false, ◌⊎◌, refl, inl, inr}
use Rattle.wire.specs.Order.{◌if◌else◌}
use Rattle.wire.specs.First.{First, Unless}

-- one link: its test says P
pub link : {P : Type 0} (m : ℕ) (b : Bool) (r : ℕ) (rest : ℕ → Type 0) → (b ≡ true → P) → (b ≡ false → ¬ P) → (b ≡ false → rest r)
    → First P m rest (m if b else r)
unfolding ◌if◌else◌
link m true r rest y n h = inl (y refl, refl)
link m false r rest y n h = inr (n refl, h refl)

-- two links of one number: either test says P
pub links : {P : Type 0} (m : ℕ) (a b : Bool) (r : ℕ) (rest : ℕ → Type 0) → (a ≡ true → P) → (b ≡ true → P) → (a ≡ false → b ≡ false → ¬ P)
    → (a ≡ false → b ≡ false → rest r) → First P m rest (m if a else m if b else r)
unfolding ◌if◌else◌
links m true b r rest p q n h = inl (p refl, refl)
links m false true r rest p q n h = inl (q refl, refl)
links m false false r rest p q n h = inr (n refl refl, h refl refl)

-- one link whose test says that P does not hold
pub unless : {P : Type 0} (m : ℕ) (b : Bool) (r : ℕ) (rest : ℕ → Type 0) → (b ≡ true → ¬ P) → (b ≡ false → P) → (b ≡ false → rest r)
    → Unless P m rest (m if b else r)
unfolding ◌if◌else◌
unless m true r rest n y h = inl (n refl, refl)
unless m false r rest n y h = inr (y refl, h refl)

-- two links of one number, of which either says so
pub unlesses : {P : Type 0} (m : ℕ) (a b : Bool) (r : ℕ) (rest : ℕ → Type 0) → (a ≡ true → ¬ P) → (b ≡ true → ¬ P) → (a ≡ false → b ≡ false → P)
    → (a ≡ false → b ≡ false → rest r) → Unless P m rest (m if a else m if b else r)
unfolding ◌if◌else◌
unlesses m true b r rest p q y h = inl (p refl, refl)
unlesses m false true r rest p q y h = inl (q refl, refl)
unlesses m false false r rest p q y h = inr (y refl refl, h refl refl)

-- neither of two
pub neither : {P Q : Type 0} → ¬ P → ¬ Q → ¬ (P ⊎ Q)
neither p q (inl x) = p x
neither p q (inr y) = q y
