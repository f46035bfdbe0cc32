-- "Order: a, b, .." as a statement: which number is given exactly when.
use Rattle.std.specs.Prelude.{◌≡◌, ℕ, ◌⊎◌}

-- n is m where P holds, and what the rest says where it does not
abbrev pub First : Type 0 → ℕ → (ℕ → Type 0) → ℕ → Type 0
First P m rest n = (P × (n ≡ m)) ⊎ (¬ P × rest n)

-- n is m unless P holds, and what the rest says where it does
abbrev pub Unless : Type 0 → ℕ → (ℕ → Type 0) → ℕ → Type 0
Unless P m rest n = (¬ P × (n ≡ m)) ⊎ (P × rest n)

-- n is 0
abbrev pub Zero : ℕ → Type 0
Zero n = n ≡ 0
