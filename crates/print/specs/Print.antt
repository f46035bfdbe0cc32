-- Pieces of text put one after another into an output.
use Rattle.std.specs.Prelude.{ℕ, ◌+◌, ◌/◌, ◌%◌, ◌≡◌, cond, List, [], ◌∷◌, leb, length}
use Rattle.io.specs.Digits.{hex_digit_ascii, last_digits, IsDigitCount}
use Rattle.wire.specs.Put.{put_of}

-- the place after a piece; a piece that does not fit is left out
unfoldable pub next_of : List ℕ → ℕ → List ℕ → ℕ
next_of out at s = cond (leb (at + length s) (length out)) (at + length s) at

-- a piece is put at a place, and the next place handed back
pub record Puts (out : List ℕ) (at : ℕ) (s : List ℕ) (after : List ℕ) (next : ℕ) : Type 0 where
  pub put : after ≡ put_of out at s
  pub place : next ≡ next_of out at s

-- the piece is a number in the fewest digits of a base, and no fewer than `least`
pub record PutsNumber (base least x : ℕ) (out : List ℕ) (at : ℕ) (after : List ℕ) (next : ℕ) : Type 0 where
  pub count : ℕ
  pub fewest : IsDigitCount base least x count
  pub puts : Puts out at (last_digits base count x) after next

-- a space and a byte in two digits
abbrev pub hex_byte : ℕ → List ℕ
hex_byte b = 32 ∷ hex_digit_ascii (b / 16) ∷ hex_digit_ascii (b % 16) ∷ []

-- the output after bytes, each a piece of its own
abbrev pub put_bytes : List ℕ → ℕ → List ℕ → List ℕ
put_bytes out at [] = out
put_bytes out at (b ∷ s) = put_bytes (put_of out at (hex_byte b)) (next_of out at (hex_byte b)) s

-- the place after them
abbrev pub next_bytes : List ℕ → ℕ → List ℕ → ℕ
next_bytes out at [] = at
next_bytes out at (b ∷ s) = next_bytes (put_of out at (hex_byte b)) (next_of out at (hex_byte b)) s
