-- A number written in n bytes, high byte first, reads back, and so do bytes read as a number; at every width.
use Rattle.std.proofs.Common.{◌≡◌, ℕ, zero, suc, ◌+◌, ◌*◌, ◌/◌, ◌%◌, ◌^◌, ◌<◌, ◌≤◌, List, [], ◌∷◌, ◌++◌, length, get_or, take, drop, sym, refl, ap, ◌∙◌, append_assoc, append-nil, lt_of_lt_of_le, pow-suc, arith, length-drop, length-take-le, get_or-drop, pow_mono, pow-add}
use Rattle.wire.proofs.Parts.{take_length_le}
use Rattle.wire.specs.BigEndian.{be_of, be_from, be_bytes}

from_snoc : (a : ℕ) (l : List ℕ) (b : ℕ) → be_from a (l ++ (b ∷ [])) ≡ be_from a l * 256 + b
from_snoc a [] b = refl
from_snoc a (x ∷ l) b = from_snoc (a * 256 + x) l b

pub be_back : (n x : ℕ) → x < 256 ^ n → be_of (be_bytes n x) ≡ x
be_back zero x h = omega arith
be_back (suc n) x h =
    let k : x / 256 < 256 ^ n = omega (arith, pow-suc 256 n) in
    from_snoc 0 (be_bytes n (x / 256)) (x % 256) ∙ rw (be_back n (x / 256) k) (omega arith)

-- a byte after i bytes keeps a number below 2 ^ (8 * (i + 1)), and so within 64 bits where i is below 8
pub more_bytes : (a b i : ℕ) → a < 2 ^ (8 * i) → b < 256 → a * 256 + b < 2 ^ (8 * (i + 1))
more_bytes a b i h k =
    let e : 2 ^ (8 * (i + 1)) ≡ 2 ^ (8 * i) * 256 = ap (λ (n : ℕ). 2 ^ n) (omega arith) ∙ pow-add 2 (8 * i) 8 in
    omega arith

pub within : (i : ℕ) → i ≤ 8 → 2 ^ (8 * i) ≤ 2 ^ 64
within i h = pow_mono {i = 8 * i} {j = 64} (omega arith)

-- a number of at most n bytes is below 2 ^ (8 * n)
below_bytes : (x n : ℕ) (l : List ℕ) → x < 2 ^ (8 * length l) → length l ≤ n → x < 2 ^ (8 * n)
below_bytes x n l h k = lt_of_lt_of_le h (pow_mono {i = 8 * length l} {j = 8 * n} (omega arith))

pub below_part : {x : ℕ} (n : ℕ) {l : List ℕ} (m : List ℕ) → x < 2 ^ (8 * length l) → l ≡ take n m → x < 2 ^ (8 * n)
below_part {x} n {l} m h e = below_bytes x n l h (rw e (take_length_le n m))

-- a list of bytes
abbrev pub Bytes : List ℕ → Type 0
Bytes l = (i : ℕ) → get_or l i 0 < 256

pub bytes_tail : (b : ℕ) (l : List ℕ) → Bytes (b ∷ l) → Bytes l
bytes_tail b l h = λ i. h (suc i)

byte_cons : (b : ℕ) (l : List ℕ) → b < 256 → Bytes l → (i : ℕ) → get_or (b ∷ l) i 0 < 256
byte_cons b l h k zero = h
byte_cons b l h k (suc i) = k i

pub bytes_take : (n : ℕ) (l : List ℕ) → Bytes l → Bytes (take n l)
bytes_take zero l h = λ i. omega arith
bytes_take (suc n) [] h = λ i. omega arith
bytes_take (suc n) (b ∷ l) h = byte_cons b (take n l) (h 0) (bytes_take n l (bytes_tail b l h))

pub bytes_drop : (n : ℕ) (l : List ℕ) → Bytes l → Bytes (drop n l)
bytes_drop n l h = λ i. rw (get_or-drop n l i 0) (h (n + i))

bytes_from : (n a : ℕ) (l : List ℕ) → Bytes l → be_bytes (n + length l) (be_from a l) ≡ be_bytes n a ++ l
bytes_from n a [] h = let e : n + 0 ≡ n = omega arith in rw e (sym (append-nil (be_bytes n a)))
bytes_from n a (b ∷ l) h =
    let e : n + length (b ∷ l) ≡ suc n + length l = omega arith in
    let k = h 0 in
    let q : (a * 256 + b) / 256 ≡ a = omega arith in
    let r : (a * 256 + b) % 256 ≡ b = omega arith in
    let s : be_bytes (suc n) (a * 256 + b) ≡ be_bytes n a ++ (b ∷ []) = rw (q, r) in
    rw e (bytes_from (suc n) (a * 256 + b) l (bytes_tail b l h) ∙ ap (λ (k : List ℕ). k ++ l) s ∙ append_assoc (be_bytes n a) (b ∷ []) l)

-- bytes read as a number, and written again at their length
pub bytes_back : (n : ℕ) (l : List ℕ) → length l ≡ n → Bytes l → be_bytes n (be_of l) ≡ l
bytes_back n l e h = let k : 0 + length l ≡ n = omega arith in rw k at (bytes_from 0 0 l h)

-- so with a part of a file
pub part_back : (n : ℕ) (f : List ℕ) (at : ℕ) → at + n ≤ length f → Bytes f → be_bytes n (be_of (take n (drop at f))) ≡ take n (drop at f)
part_back n f at h b =
    bytes_back n (take n (drop at f)) (length-take-le n (drop at f) (rw (length-drop at f) (omega arith))) (bytes_take n (drop at f) (bytes_drop at f b))

-- bytes after i bytes keep a number below 2 to the bits that they all have
from_below : (i a : ℕ) (b : List ℕ) → a < 2 ^ (8 * i) → Bytes b → be_from a b < 2 ^ (8 * (i + length b))
from_below i a [] h g = let e : i + 0 ≡ i = omega arith in rw e h
from_below i a (x ∷ b) h g =
    let e : i + length (x ∷ b) ≡ i + 1 + length b = omega arith in
    rw e (from_below (i + 1) (a * 256 + x) b (more_bytes a x i h (g 0)) (bytes_tail x b g))

pub be_below : (b : List ℕ) → Bytes b → be_of b < 2 ^ (8 * length b)
be_below b g = let e : 0 + length b ≡ length b = omega arith in rw e at (from_below 0 0 b (omega arith) g)
