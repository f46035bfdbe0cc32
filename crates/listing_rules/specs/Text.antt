-- Numbers and bytes as text, in ASCII.
use Rattle.std.specs.Prelude.{ℕ, zero, suc, ◌+◌, ◌/◌, ◌%◌, cond, ◌&&◌, List, [], ◌∷◌, ◌++◌, map, leb, take, ℤ, pos, negsuc}
use Prim.Native.Char.{code}
use Prim.Native.String.{String, [] as empty, ◌∷◌ as joined}
use Rattle.wire.specs.Text.{text_len}

-- a text's bytes
abbrev pub ascii : String → List ℕ
ascii empty = []
ascii (joined c s) = code c ∷ ascii s

-- the digit of a number below 10
abbrev pub digit : ℕ → ℕ
digit x = 48 + x

-- a number's digits, at most the last k of them, without leading zeros: none for 0
abbrev pub digits : ℕ → ℕ → List ℕ
digits zero x = []
digits (suc k) zero = []
digits (suc k) (suc x) = digits k (suc x / 10) ++ (digit (suc x % 10) ∷ [])

-- a number in decimal digits: x / 10 has at most x digits, so none is lost
unfoldable pub decimal : ℕ → List ℕ
decimal x = digits x (x / 10) ++ (digit (x % 10) ∷ [])

-- an integer: `-` stands before a negative one
unfoldable pub integer : ℤ → List ℕ
integer (pos n) = decimal n
integer (negsuc n) = ascii "-" ++ decimal (suc n)

-- "bytes outside 32..126 print as `.`"
unfoldable pub printed_byte : ℕ → ℕ
printed_byte b = cond (leb 32 b && leb b 126) b 46

unfoldable pub printed : List ℕ → List ℕ
printed text = map printed_byte text

-- a text goes to its zero
unfoldable pub to_zero : List ℕ → List ℕ
to_zero t = take (text_len t) t
