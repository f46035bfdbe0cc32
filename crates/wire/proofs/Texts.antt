-- Laws of zero-ended texts.
use Rattle.std.proofs.Common.{◌≡◌, ℕ, zero, suc, ◌+◌, ◌<◌, ◌≤◌, ◌≢◌, List, [], ◌∷◌, ◌++◌, length, get_or, refl, ap, arith, nat_eq, false, rules}
use borrow.Author.Tests.{tests}
use Rattle.std.proofs.lemmas.Grind.{common_steps}
use Rattle.std.specs.Prelude.{position, unwrap_or}
use Rattle.std.specs.List.{position_or_len}
use Rattle.wire.specs.Text.{text_len, zeros}

pub zeros_at : (b : ℕ) (bs : List ℕ) → (b ≡ 0 → ⊥) → zeros (b ∷ bs) ≡ zeros bs
zeros_at zero bs h = absurd (h refl)
zeros_at (suc b) bs h = refl

pub zeros_zero : (b : ℕ) (bs : List ℕ) → b ≡ 0 → zeros (b ∷ bs) ≡ 1 + zeros bs
zeros_zero zero bs h = omega arith
zeros_zero (suc b) bs h = absurd (omega arith)

-- a text is no longer than what holds it
pub text_most : (l : List ℕ) → text_len l ≤ length l
text_most [] = omega arith
text_most (zero ∷ l) = omega arith
text_most (suc b ∷ l) = omega (arith, text_most l)

-- a text without a zero, and a zero after it
pub text_back : (t r : List ℕ) → text_len t ≡ length t → text_len (t ++ (0 ∷ r)) ≡ length t
text_back [] r h = refl
text_back (zero ∷ t) r h = absurd (omega arith)
text_back (suc b ∷ t) r h = ap suc (text_back t r (omega arith))

pub zeros_append : (a b : List ℕ) → zeros (a ++ b) ≡ zeros a + zeros b
zeros_append [] b = omega arith
zeros_append (zero ∷ a) b = omega (arith, zeros_append a b)
zeros_append (suc x ∷ a) b = zeros_append a b

-- a text stops at a zero, and has none before it
pub text_stops : (l : List ℕ) → get_or l (text_len l) 0 ≡ 0
text_stops [] = refl
text_stops (zero ∷ l) = refl
text_stops (suc b ∷ l) = text_stops l

pub text_plain : (l : List ℕ) (i : ℕ) → i < text_len l → get_or l i 0 ≢ 0
text_plain [] i h e = omega arith
text_plain (zero ∷ l) i h e = omega arith
text_plain (suc b ∷ l) zero h e = omega arith
text_plain (suc b ∷ l) (suc i) h e = text_plain l i (omega arith) e

-- the first zero, as a search finds it
before_zero : (s : List ℕ) → position_or_len (λ (b : ℕ). nat_eq b 0) s ≡ text_len s
before_zero [] = refl
before_zero (zero ∷ s) = refl
before_zero (suc b ∷ s) =
    let e : nat_eq (suc b) 0 ≡ false = search (rules, tests) in
    rw e (omega (arith, before_zero s))

pub first_zero : (s : List ℕ) → unwrap_or (position (λ (b : ℕ). nat_eq b 0) s) (length s) ≡ text_len s
first_zero s = grind (arith, common_steps, before_zero s, text_most s)
