-- Laws of frames: bytes padded with zeros, the bytes that count, and bytes set one after the other.
use mathlib.Core.Path.{◌≡◌, refl, sym, ◌∙◌, ap}
use mathlib.Core.List.{List, [], ◌∷◌, ◌++◌}
use Prim.Native.Nat.{ℕ, zero, suc, ◌+◌, ◌-◌, ◌≤◌, ◌<◌, min}
use native.Mathlib.Nat.{zero-add, add-zero}
use native.Mathlib.Numerals.{add-one}
use native.Mathlib.Omega.{arith}
use native.Mathlib.Decide.{dec_lt}
use lib.ListN.{length, get_or, take, drop, set, replicate, length-append, length-take, length-drop, length-replicate, get_or-append}
use lib.Seq.{sets, take-suc, take_all, take-append-le, take-append-add, take-take, get_or-append-add, get_or-take, length-take-le}
use borrow.Author.Tests.{ltb-false}
use Rattle.wire.specs.Put.{put_at, put_of}
use Rattle.wire.proofs.Orders.{if_zero}
use Rattle.wire.proofs.Parts.{take_length_le}
use Rattle.wire.proofs.Puts.{put_fits, put_sets}
use Rattle.bus_rules.specs.Frames.{Frame, padded, content, frame_with, head_number}
use Rattle.bus_rules.specs.Holder.{byte_of}

-- the values that a frame of the code has
pub record IsFrame (f : Frame) : Type 0 where
  pub eight : length f.bytes ≡ 8
  pub bytes : (i : ℕ) → i < 8 → byte_of f i < 256

drop_same : (n m a : ℕ) → drop n (replicate m a) ≡ replicate (m - n) a
drop_same zero m a = let e : m - 0 ≡ m = omega arith in rw e
drop_same (suc n) zero a = let e : 0 - suc n ≡ 0 = omega arith in rw e
drop_same (suc n) (suc m) a = let e : suc m - suc n ≡ m - n = omega arith in rw e (drop_same n m a)

take_same : (n m a : ℕ) → n ≤ m → take n (replicate m a) ≡ replicate n a
take_same zero m a h = refl
take_same (suc n) zero a h = absurd (omega arith)
take_same (suc n) (suc m) a h = ap (λ (l : List ℕ). a ∷ l) (take_same n m a (omega arith))

zeros_at : (n i : ℕ) → ◌≡◌ {A = ℕ} (get_or (replicate n 0) i 0) 0
zeros_at zero i = refl
zeros_at (suc n) zero = refl
zeros_at (suc n) (suc i) = zeros_at n i

-- bytes, then zeros
pub padded_is : (bs : List ℕ) → length bs ≤ 8 → padded bs ≡ bs ++ replicate (8 - length bs) 0
unfolding padded
padded_is bs h =
    let e : length bs + (8 - length bs) ≡ 8 = omega arith in
    (rw e at (take-append-add bs (replicate 8 0) (8 - length bs)))
    ∙ ap (λ (l : List ℕ). bs ++ l) (take_same (8 - length bs) 8 0 (omega arith))

-- a copy into eight zeros
padded_put : (bs : List ℕ) → length bs ≤ 8 → put_of (replicate 8 0) 0 bs ≡ padded bs
unfolding put_at
padded_put bs h =
    put_fits (replicate 8 0) 0 bs (omega arith)
    ∙ rw zero-add (ap (λ (l : List ℕ). bs ++ l) (drop_same (length bs) 8 0))
    ∙ sym (padded_is bs h)

-- only the first eight count
pub padded_take : (bs : List ℕ) → padded (take 8 bs) ≡ padded bs
unfolding padded
padded_take bs = go (dec_lt (length bs) 8)
  where
    go : Dec (length bs < 8) → take 8 (take 8 bs ++ replicate 8 0) ≡ take 8 (bs ++ replicate 8 0)
    go (yes p) = rw (take_all 8 bs (omega arith))
    go (no p) =
        let l : length (take 8 bs) ≡ 8 = length-take-le 8 bs (omega arith) in
        take-append-le 8 (take 8 bs) (replicate 8 0) (omega arith) ∙ take-take 8 8 bs (omega arith)
        ∙ sym (take-append-le 8 bs (replicate 8 0) (omega arith))

-- set one after the other in eight zeros
pub padded_sets : (bs : List ℕ) → sets (replicate 8 0) 0 (take 8 bs) ≡ padded bs
padded_sets bs =
    let h = take_length_le 8 bs in
    sym (put_sets (replicate 8 0) 0 (take 8 bs) (omega arith)) ∙ padded_put (take 8 bs) h ∙ padded_take bs

pub padded_length : (bs : List ℕ) → length bs ≤ 8 → length (padded bs) ≡ 8
padded_length bs h = rw (padded_is bs h, length-append, length-replicate) (omega arith)

pub padded_in : (bs : List ℕ) → length bs ≤ 8 → (i : ℕ) → i < length bs → get_or (padded bs) i 0 ≡ get_or bs i 0
padded_in bs h i l = rw (padded_is bs h) (get_or-append bs (replicate (8 - length bs) 0) 0 i l)

pub padded_after : (bs : List ℕ) → length bs ≤ 8 → (i : ℕ) → length bs ≤ i → get_or (padded bs) i 0 ≡ 0
padded_after bs h i l =
    let e : length bs + (i - length bs) ≡ i = omega arith in
    rw (padded_is bs h)
    ((rw e at (get_or-append-add bs (replicate (8 - length bs) 0) (i - length bs) 0)) ∙ zeros_at (8 - length bs) (i - length bs))

-- the bytes of a frame that count
pub content_min : (f : Frame) → length f.bytes ≡ 8 → length (content f) ≡ min f.len 8
unfolding content
content_min f h = simp length-take (omega arith)

pub content_length : (f : Frame) → length f.bytes ≡ 8 → f.len ≤ 8 → length (content f) ≡ f.len
content_length f h l = omega (arith, content_min f h)

pub content_at : (f : Frame) (i : ℕ) → i < f.len → get_or (content f) i 0 ≡ get_or f.bytes i 0
unfolding content
content_at f i h = get_or-take f.len f.bytes i 0 h

-- of at most eight bytes
pub content_of_frame : (id : ℕ) (bs : List ℕ) → length bs ≤ 8 → content (frame_with id bs) ≡ bs
unfolding content frame_with
content_of_frame id bs h =
    rw (padded_is bs h) (take-append-le (length bs) bs (replicate (8 - length bs) 0) (omega arith) ∙ take_all (length bs) bs (omega arith))

-- ── Heads and lists ────────────────────────────────────────────────────────────────────────────────────────────────

-- the length of a frame that no receiver refuses
pub head_short : (own : ℕ) (f : Frame) → head_number own f ≡ 0 → f.len ≤ 8
unfolding head_number
head_short own f h =
    let h1 = if_zero 0 _ _ h in
    let h2 = if_zero 1 _ _ h1.1 in
    let h3 = if_zero 2 _ _ h2.1 in
    ltb-false 8 f.len h3.0

-- a part of a list: n bytes from a place
pub part_is : (m : List ℕ) (at n : ℕ) → take (at + n - at) (drop at m) ≡ take n (drop at m)
part_is m at n = let e : at + n - at ≡ n = omega arith in rw e

pub part_length : (m : List ℕ) (at n : ℕ) → at + n ≤ length m → length (take n (drop at m)) ≡ n
part_length m at n h = length-take-le n (drop at m) (simp length-drop (omega arith))

-- bytes set one after the other from a place on: the last of them
sets_last : (bs m : List ℕ) (at b : ℕ) → sets m at (bs ++ (b ∷ [])) ≡ set (sets m at bs) (at + length bs) b
sets_last [] m at b = rw add-zero
sets_last (a ∷ bs) m at b =
    let e : at + suc (length bs) ≡ suc at + length bs = omega arith in
    rw e (sets_last bs (set m at a) (suc at) b)

module _ (m : List ℕ) (at : ℕ) (bs : List ℕ) (i : ℕ) where
  -- byte i, after the i before it
  pub sets_next : i < length bs → set (sets m at (take i bs)) (at + i) (get_or bs i 0) ≡ sets m at (take (i + 1) bs)
  sets_next h =
      let l : length (take i bs) ≡ i = length-take-le i bs (omega arith) in
      sym (rw (add-one, take-suc bs i 0 h) (rw l at (sets_last (take i bs) m at (get_or bs i 0))))

  -- none, past the last
  pub sets_done : length bs ≤ i → sets m at (take i bs) ≡ sets m at (take (i + 1) bs)
  sets_done h = ap (sets m at) (take_all i bs h ∙ sym (take_all (i + 1) bs (omega arith)))
