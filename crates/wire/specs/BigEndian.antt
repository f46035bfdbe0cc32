-- Numbers in bytes, high byte first.
use Rattle.std.specs.Prelude.{ℕ, zero, suc, ◌+◌, ◌*◌, ◌/◌, ◌%◌, List, [], ◌∷◌, ◌++◌, take, drop}

-- the number that bytes make after a number of higher bytes
abbrev pub be_from : ℕ → List ℕ → ℕ
be_from a [] = a
be_from a (b ∷ bs) = be_from (a * 256 + b) bs

-- the number that bytes make
abbrev pub be_of : List ℕ → ℕ
be_of s = be_from 0 s

-- the number in the n bytes from a place, or in those of them that are there
abbrev pub be_at : ℕ → List ℕ → ℕ → ℕ
be_at n s at = be_of (take n (drop at s))

-- a number in n bytes
abbrev pub be_bytes : ℕ → ℕ → List ℕ
be_bytes zero x = []
be_bytes (suc n) x = be_bytes n (x / 256) ++ (x % 256 ∷ [])
