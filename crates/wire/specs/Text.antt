-- Texts that end in a zero.
use Rattle.std.specs.Prelude.{◌≡◌, ℕ, zero, suc, ◌+◌, ◌<◌, List, [], ◌∷◌, drop, nat_le, nat_lt, slice_index}

-- how many bytes stand before the first zero; the length where there is none
abbrev pub text_len : List ℕ → ℕ
text_len [] = 0
text_len (zero ∷ bs) = 0
text_len (suc b ∷ bs) = suc (text_len bs)

-- how many zeros: how many zero-ended texts stand back to back
abbrev pub zeros : List ℕ → ℕ
zeros [] = 0
zeros (zero ∷ bs) = suc (zeros bs)
zeros (suc b ∷ bs) = zeros bs

-- What private functions of MLG rely on, which no promise of a public call rests on: the places of the last 32 zeros of s, from its end back,
-- each counted from 1, and 0 where there are fewer: from place k on there are at most n zeros exactly where k is past the (n + 1)-th of these
abbrev pub LastZeros : List ℕ → List ℕ → Type 0
LastZeros s last = (n k : ℕ) → n < 32 → nat_lt (zeros (drop k s)) (n + 1) ≡ nat_le (slice_index last n) k
