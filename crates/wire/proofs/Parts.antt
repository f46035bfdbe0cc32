-- Laws of parts of a list that several proofs cite.
use Rattle.std.proofs.Common.{◌≡◌, ℕ, ◌+◌, ◌-◌, ◌<◌, ◌≤◌, List, [], ◌∷◌, ◌++◌, length, get_or, take, drop, sym, ap, ◌∙◌, le_refl, add-one, arith, length-drop, drop_of_length-le, length-take, take_all, drop-cons, drop-drop, take-add}
use lib.Seq.{take-nil, take-append-le, drop-append-le}

-- what is left of a list at a place: its element there, and what is left after it
pub rest : (s : List ℕ) (i : ℕ) → i < length s → drop i s ≡ get_or s i 0 ∷ drop (i + 1) s
rest s i h = rw (add-one, drop-cons s i 0)

-- a function of what is left, at a place and at the next
pub rest_of : {A : Type 0} (f : List ℕ → A) (s : List ℕ) (i : ℕ) → i < length s → f (drop i s) ≡ f (get_or s i 0 ∷ drop (i + 1) s)
rest_of f s i h = ap f (rest s i h)

-- at or past the end nothing is left
pub rest_none : {A : Type 0} (f : List ℕ → A) (s : List ℕ) (i : ℕ) → length s ≤ i → f (drop i s) ≡ f []
rest_none f s i h = ap f (drop_of_length-le s h)

-- the rest of a list, as the last n of it where it has no more
pub rest_part : (s : List ℕ) (at n : ℕ) → length s - at ≤ n → take (length s - at) (drop at s) ≡ take n (drop at s)
rest_part s at n h =
    take_all (length s - at) (drop at s) (simp length-drop (le_refl (length s - at)))
    ∙ sym (take_all n (drop at s) (simp length-drop h))

-- the part from a place to the end
pub tail_part : (s : List ℕ) (at : ℕ) → take (length s - at) (drop at s) ≡ drop at s
tail_part s at = take_all (length s - at) (drop at s) (simp length-drop (le_refl (length s - at)))

-- the part of n bytes from a place, where n is written m
pub part_is : (s : List ℕ) (at n m : ℕ) → n ≡ m → take (at + n - at) (drop at s) ≡ take m (drop at s)
part_is s at n m e = let k : at + n - at ≡ m = omega arith in rw k

-- from the end on there is nothing
pub nothing_at : (n : ℕ) (s : List ℕ) (at : ℕ) → length s ≤ at → take n (drop at s) ≡ []
nothing_at n s at h = ap (take n) (drop_of_length-le s h) ∙ take-nil n

-- n elements at most
pub take_length_le : (n : ℕ) (l : List ℕ) → length (take n l) ≤ n
take_length_le n l = simp length-take (omega arith)

-- a part that lies within the first of two lists
pub part_append : (n at : ℕ) (t r : List ℕ) → at + n ≤ length t → take n (drop at (t ++ r)) ≡ take n (drop at t)
part_append n at t r h =
    let a : at ≤ length t = omega arith in
    let b : n ≤ length (drop at t) = rw (length-drop at t) (omega arith) in
    rw (drop-append-le at t r a, take-append-le n (drop at t) r b)

-- a part, in two
pub part_in_two : (at n m : ℕ) (f : List ℕ) → take (n + m) (drop at f) ≡ take n (drop at f) ++ take m (drop (at + n) f)
part_in_two at n m f = take-add n m (drop at f) ∙ ap (λ (r : List ℕ). take n (drop at f) ++ take m r) (drop-drop n at f)
