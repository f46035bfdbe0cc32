-- Refusals in an order: `11 if t else 10 if u else 0` is the number of the first test that holds.
use Rattle.std.specs.Prelude.{ℕ, zero, suc, Bool, true, false}

infixr 10 ◌if◌else◌
infixr 9 ◌or_else◌
-- n where the test holds, and what follows otherwise
unfoldable pub ◌if◌else◌ : ℕ → Bool → ℕ → ℕ
n if true else r = n
n if false else r = r

-- the first number, or the second where the first is 0
unfoldable pub ◌or_else◌ : ℕ → ℕ → ℕ
zero or_else b = b
suc a or_else b = suc a
