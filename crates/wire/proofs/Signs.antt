-- Laws on differences of integers, over every width.
use Rattle.std.proofs.Common.{◌≡◌, ℕ, zero, suc, ◌-◌, ◌*◌, ◌<◌, ◌≤◌, pos, negsuc, ◌-ℤ◌, refl, ap, ◌∙◌, arith, le-ltb, lt-ltb}
use Rattle.wire.specs.Sign.{twos}

-- -1 - n
pub minus_one : (n : ℕ) → negsuc 0 -ℤ pos n ≡ negsuc n
minus_one zero = refl
minus_one (suc m) = ap (λ (k : ℕ). negsuc (suc k)) (omega arith)

-- x - n, where x is below n
pub sub_below : (x n : ℕ) → x < n → pos x -ℤ pos n ≡ negsuc (n - suc x)
sub_below x zero h = absurd (omega arith)
sub_below x (suc m) h = rw (lt-ltb x (suc m) h)

pub twos_low : (half x : ℕ) → x < half → twos half x ≡ pos x
unfolding twos
twos_low half x h = rw (lt-ltb x half h)

pub twos_high : (half x : ℕ) → half ≤ x → x < 2 * half → twos half x ≡ negsuc (half - 1 - (x - half))
unfolding twos
twos_high half x h k = rw (le-ltb x half h) (sub_below x (2 * half) k ∙ ap negsuc (omega arith))
