-- Laws of the area from the fields' end to data begin.
use Prim.Native.Nat.{ℕ, zero, suc, ◌+◌, ◌-◌, ◌≤◌}
use mathlib.Core.Path.{◌≡◌, refl, sym, ap, ◌∙◌}
use mathlib.Core.List.{List, [], ◌∷◌, ◌++◌, append-nil}
use native.Mathlib.Omega.{arith}
use lib.ListN.{length, take, drop, length-append}
use lib.Seq.{drop-append-le, drop-append-add, drop-drop, take-nil, drop-nil}
use Rattle.wire.specs.Text.{zeros}
use Rattle.wire.proofs.Texts.{zeros_append}
use Rattle.mlg_rules.specs.Area.{ended, area_of}
use Rattle.mlg_rules.specs.Header.{fields_end, area_in}
use Rattle.mlg_rules.specs.declared.Header.{Header}

pub ended_some : (l : List ℕ) → (length l ≡ 0 → ⊥) → ended l ≡ l ++ (0 ∷ [])
ended_some [] h = absurd (h refl)
ended_some (b ∷ l) h = refl

pub ended_none : (l : List ℕ) → length l ≡ 0 → ended l ≡ []
ended_none [] h = refl
ended_none (b ∷ l) h = absurd (omega arith)

pub area_length : (n i : List ℕ) → length (area_of n i) ≡ length n + length (ended i)
unfolding area_of
area_length n i = length-append n (ended i)

pub ended_length : (l : List ℕ) → (length l ≡ 0 → ⊥) → length (ended l) ≡ length l + 1
ended_length l h = ap length (ended_some l h) ∙ length-append l (0 ∷ [])

-- zeros of info with its zero, from a place on
pub ended_from : (l : List ℕ) (k : ℕ) → (length l ≡ 0 → ⊥) → k ≤ length l → zeros (drop k (ended l)) ≡ zeros (drop k l) + 1
ended_from l k h e = rw (ended_some l h, drop-append-le k l (0 ∷ []) e) (zeros_append (drop k l) (0 ∷ []))

pub ended_empty : (l : List ℕ) (k : ℕ) → length l ≡ 0 → 0 ≡ zeros (drop k (ended l))
ended_empty l k h = rw (ended_none l h, drop-nil k)

-- zeros of the area from a place on
pub area_past : (n i : List ℕ) (k : ℕ) → length n ≤ k → drop (k - length n) (ended i) ≡ drop k (area_of n i)
unfolding area_of
area_past n i k h =
    let e : k ≡ length n + (k - length n) = omega arith in
    sym (ap (λ (m : ℕ). drop m (n ++ ended i)) e ∙ drop-append-add n (ended i) (k - length n))

pub area_from : (n i : List ℕ) (k : ℕ) → k ≤ length n → zeros (drop k n) + zeros (ended i) ≡ zeros (drop k (area_of n i))
unfolding area_of
area_from n i k h = sym (ap zeros (drop-append-le k n (ended i) h) ∙ zeros_append (drop k n) (ended i))

pub area_bare : (n : List ℕ) → area_of n [] ≡ n
unfolding area_of
area_bare n = append-nil n

pub drop_take : (m n : ℕ) (l : List ℕ) → drop m (take n l) ≡ take (n - m) (drop m l)
drop_take zero n l = let e : n ≡ n - zero = omega arith in ap (λ (k : ℕ). take k l) e
drop_take (suc m) zero l = let e : zero - suc m ≡ zero = omega arith in sym (ap (λ (k : ℕ). take k (drop (suc m) l)) e)
drop_take (suc m) (suc n) [] = sym (take-nil (suc n - suc m))
drop_take (suc m) (suc n) (x ∷ l) = let e : n - m ≡ suc n - suc m = omega arith in drop_take m n l ∙ ap (λ (k : ℕ). take k (drop m l)) e

-- the part of a file from a place in the area to the area's end
pub area_part : (f : List ℕ) (e b i : ℕ) → e ≤ i → take (b - i) (drop i f) ≡ drop (i - e) (take (b - e) (drop e f))
area_part f e b i h =
    let p : e + (i - e) ≡ i = omega arith in
    let q : b - e - (i - e) ≡ b - i = omega arith in
    sym (drop_take (i - e) (b - e) (drop e f) ∙ rw (drop-drop (i - e) e f, p, q))

-- a file's area and fields, as the reader lends them
pub file_area : (f : List ℕ) (h : Header) (e : ℕ) → e ≡ fields_end h → area_of (take (h.begin - e) (drop e f)) [] ≡ area_in f h
unfolding area_in
file_area f h e k = area_bare (take (h.begin - e) (drop e f)) ∙ rw k
