-- A chain of refusals gives n exactly where `First` says n: the equation with a number, both ways. (`Firsts` has that `First` holds of what the chain gives.)
use Rattle.std.proofs.Common.{◌≡◌, ℕ, ◌<◌, ◌≤◌, Bool, true, false, not, ◌||◌, eqb, ltb, leb, ◌≢◌, ◌↔◌, sym, refl, inl, inr, true≢false, arith, ltb-true, lt-ltb, eq-eqb, eqb-true, le-leb, leb-true}
use mathlib.Core.Bool.{false≢true}
use borrow.Author.Tests.{eqb-false}
use Rattle.wire.specs.Order.{◌if◌else◌}
use Rattle.wire.specs.First.{First}

-- one test of a chain of refusals
pub first_if : (m : ℕ) (t : Bool) (k n : ℕ) (P : Type 0) (rest : ℕ → Type 0) → (t ≡ true) ↔ P → (t ≡ false → (k ≡ n) ↔ rest n)
    → ((m if t else k) ≡ n) ↔ First P m rest n
unfolding ◌if◌else◌
first_if m true k n P rest d r = (λ e. inl (d.0 refl, sym e), back)
  where
    back : First P m rest n → m ≡ n
    back (inl q) = sym q.1
    back (inr q) = absurd (q.0 (d.0 refl))
first_if m false k n P rest d r = (λ e. inr (λ p. false≢true (d.1 p), (r refl).0 e), back)
  where
    back : First P m rest n → k ≡ n
    back (inl q) = absurd (false≢true (d.1 q.0))
    back (inr q) = (r refl).1 q.1

-- tests and what they test
pub not_test : (t : Bool) (P : Type 0) → (t ≡ true) ↔ P → (not t ≡ true) ↔ (¬ P)
not_test true P d = (λ e. absurd (false≢true e), λ n. absurd (n (d.0 refl)))
not_test false P d = (λ e p. false≢true (d.1 p), λ n. refl)

pub leb_test : (a b : ℕ) → (leb a b ≡ true) ↔ (a ≤ b)
leb_test a b = (leb-true a b, le-leb a b)

pub ltb_test : (a b : ℕ) → (ltb a b ≡ true) ↔ (a < b)
ltb_test a b = (ltb-true a b, lt-ltb a b)

pub eqb_test : (a b : ℕ) → (eqb a b ≡ true) ↔ (a ≡ b)
eqb_test a b = (eqb-true a b, eq-eqb a b)

pub sound_test : (t : Bool) → (not t ≡ true) ↔ (t ≡ false)
sound_test true = (λ e. absurd (false≢true e), λ e. absurd (true≢false e))
sound_test false = (λ e. refl, λ e. refl)

-- two tests of one number
pub either : (m : ℕ) (t u : Bool) (k : ℕ) → (m if t else m if u else k) ≡ (m if (t || u) else k)
unfolding ◌if◌else◌
either m true u k = refl
either m false u k = refl

-- one of two bounds is passed
pub or_test : (t u : Bool) (P Q : Type 0) → (t ≡ true) ↔ (¬ P) → (u ≡ true) ↔ (¬ Q) → (t ≡ false → P) → (u ≡ false → Q)
    → ((t || u) ≡ true) ↔ (¬ (P × Q))
or_test true u P Q d e p q = (λ h z. d.0 refl z.0, λ n. refl)
or_test false true P Q d e p q = (λ h z. e.0 refl z.1, λ n. refl)
or_test false false P Q d e p q = (λ h. absurd (false≢true h), λ n. absurd (n (p refl, q refl)))

pub over_test : (a b : ℕ) → (ltb a b ≡ true) ↔ (¬ (b ≤ a))
over_test a b = (λ e l. omega (arith, ltb-true a b e), λ n. lt-ltb a b (omega arith))

pub none_test : (a : ℕ) → (eqb a 0 ≡ true) ↔ (¬ (1 ≤ a))
none_test a = (λ e l. omega (arith, eqb-true a 0 e), λ n. eq-eqb a 0 (omega arith))

pub some_of : (a : ℕ) → eqb a 0 ≡ false → 1 ≤ a
some_of a e = go (eqb-false a 0 e)
  where
    go : a ≢ 0 → 1 ≤ a
    go h = omega arith
