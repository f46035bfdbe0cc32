-- What a call hands back, told by its number and its value.
use Rattle.std.proofs.Common.{◌≡◌, ℕ, Bool, true, false, Result, Ok, Err, refl, sym}
use Rattle.wire.specs.Order.{◌if◌else◌}
use Rattle.wire.specs.Answer.{result_of}
use Rattle.wire.specs.Refusals.{code, number_of, given, checked}
use Rattle.wire.specs.declared.refusal.Refusal.{Refusal}
use Rattle.wire.proofs.RefusalLaws.{code_ne0, refused, held}

pub told : {A : Type 0} (none x : A) (n : ℕ) (r : Result A Refusal) → number_of r ≡ n → ((y : A) → r ≡ Ok y → y ≡ x)
    → (r ≡ checked n x) × (given none r ≡ result_of none n x)
told none x n (Ok y) e h = held none x n y (sym e) (h y refl)
told none x n (Err r) e h = refused none x n r e

-- a refusal by a test, whatever follows the test
pub if_refused : (n : ℕ) (b : Bool) (r : ℕ) (e : Refusal) → code e ≡ (n if b else 0) → code e ≡ (n if b else r)
unfolding ◌if◌else◌
if_refused n true r e h = h
if_refused n false r e h = absurd (code_ne0 e h)
