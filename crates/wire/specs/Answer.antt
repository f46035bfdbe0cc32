-- What a call hands back: a value where its number is 0, else a refusal, which holds the number alone.
use Rattle.std.specs.Prelude.{ℕ, zero, suc}

-- as a number and a value; "every other number in it is 0": `none` stands for the value of a refusal
unfoldable pub result_of : {A : Type 0} → A → ℕ → A → ℕ × A
result_of none zero x = (0, x)
result_of none (suc n) x = (suc n, none)
