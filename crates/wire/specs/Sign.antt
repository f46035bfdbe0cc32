-- Signed numbers in two's complement.
use Rattle.std.specs.Prelude.{ℕ, ◌-◌, ◌*◌, ◌^◌, cond, ℤ, pos, ◌-ℤ◌, nat_lt}

-- a number below half of 2 * half is itself, another is 2 * half less
unfoldable pub twos : ℕ → ℕ → ℤ
twos half x = cond (nat_lt x half) (pos x) (pos x -ℤ pos (2 * half))

-- the signed number of k bits
abbrev pub signed_of : ℕ → ℕ → ℤ
signed_of k x = twos (2 ^ (k - 1)) x
