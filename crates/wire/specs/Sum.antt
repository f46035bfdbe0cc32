-- "the sum of the record's bytes, modulo 256"
use Rattle.std.specs.Prelude.{ℕ, ◌+◌, ◌%◌, List, [], ◌∷◌}

-- the sum of bytes
abbrev pub total : List ℕ → ℕ
total [] = 0
total (b ∷ bs) = b + total bs

-- modulo 256
abbrev pub sum_of : List ℕ → ℕ
sum_of s = total s % 256
