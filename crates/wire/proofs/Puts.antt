-- Laws of bytes put into lent memory.
use Rattle.std.proofs.Common.{◌≡◌, ℕ, ◌+◌, ◌-◌, ◌<◌, ◌≤◌, ◌⊎◌, List, ◌++◌, length, get_or, take, drop, sym, ap, ◌∙◌, inl, inr, append_assoc, arith, length-append, length-take-le, get_or-drop, get_or-take, get_or-append-add, le-leb}
use lib.ListN.{get_or-append}
use lib.Seq.{paste, take-length, sets, sets-eq}
use borrow.Author.Tests.{lt-leb}
use Rattle.wire.specs.Put.{put_at, put_of}

-- all of them copied, one after the other
pub paste_all : (out : List ℕ) (at : ℕ) (bs : List ℕ) (i : ℕ) → i ≡ length bs → paste out at bs i ≡ put_at out at bs
unfolding put_at
paste_all out at bs i e = rw (e, take-length bs)

-- they fit
pub put_fits : (out : List ℕ) (at : ℕ) (bs : List ℕ) → at + length bs ≤ length out → put_of out at bs ≡ put_at out at bs
unfolding put_of
put_fits out at bs h = rw (le-leb _ _ h)

-- they do not
pub put_over : (out : List ℕ) (at : ℕ) (bs : List ℕ) → length out < at + length bs → put_of out at bs ≡ out
unfolding put_of
put_over out at bs h = rw (lt-leb _ _ h)

-- as single bytes set one after the other
pub put_sets : (out : List ℕ) (at : ℕ) (bs : List ℕ) → at + length bs ≤ length out → put_of out at bs ≡ sets out at bs
unfolding put_at
put_sets out at bs h = put_fits out at bs h ∙ sym (sets-eq bs out at h)

-- what stands in memory after bytes were set from `at` on: the bytes there, and everything else as it was
module _ (m : List ℕ) (at : ℕ) (bs : List ℕ) (fit : at + length bs ≤ length m) where
  head_length : length (take at m ++ bs) ≡ at + length bs
  head_length = length-append (take at m) bs ∙ rw (length-take-le at m (omega arith))

  split : sets m at bs ≡ (take at m ++ bs) ++ drop (at + length bs) m
  split = sets-eq bs m at fit ∙ simp append_assoc

  pub sets_in : (i : ℕ) → i < length bs → get_or (sets m at bs) (at + i) 0 ≡ get_or bs i 0
  sets_in i h =
      let la : length (take at m) ≡ at = length-take-le at m (omega arith) in
      let lt : at + i < length (take at m ++ bs) = rw head_length (omega arith) in
      ap (λ (l : List ℕ). get_or l (at + i) 0) split
      ∙ get_or-append (take at m ++ bs) (drop (at + length bs) m) 0 (at + i) lt
      ∙ (rw la at (get_or-append-add (take at m) bs i 0))

  sets_before : (j : ℕ) → j < at → get_or (sets m at bs) j 0 ≡ get_or m j 0
  sets_before j h =
      let la : length (take at m) ≡ at = length-take-le at m (omega arith) in
      let lt : j < length (take at m ++ bs) = rw head_length (omega arith) in
      let lt' : j < length (take at m) = rw la h in
      ap (λ (l : List ℕ). get_or l j 0) split
      ∙ get_or-append (take at m ++ bs) (drop (at + length bs) m) 0 j lt
      ∙ get_or-append (take at m) bs 0 j lt'
      ∙ get_or-take at m j 0 h

  sets_after : (j : ℕ) → at + length bs ≤ j → get_or (sets m at bs) j 0 ≡ get_or m j 0
  sets_after j h =
      let e : at + length bs + (j - (at + length bs)) ≡ j = omega arith in
      ap (λ (l : List ℕ). get_or l j 0) split
      ∙ (rw (head_length, e) at (get_or-append-add (take at m ++ bs) (drop (at + length bs) m) (j - (at + length bs)) 0))
      ∙ get_or-drop (at + length bs) m (j - (at + length bs)) 0
      ∙ rw e

  pub sets_outside : (j : ℕ) → (j < at) ⊎ (at + length bs ≤ j) → get_or (sets m at bs) j 0 ≡ get_or m j 0
  sets_outside j (inl h) = sets_before j h
  sets_outside j (inr h) = sets_after j h
