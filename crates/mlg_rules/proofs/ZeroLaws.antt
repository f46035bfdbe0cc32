-- Laws of the places of the last zeros.
use Prim.Native.Nat.{ℕ, zero, suc, ◌+◌, ◌*◌, ◌-◌, ◌≤◌, ◌<◌}
use mathlib.Core.Path.{◌≡◌, refl, sym, ap, ◌∙◌}
use mathlib.Core.Bool.{Bool, true, false}
use mathlib.Core.List.{List, [], ◌∷◌}
use native.Mathlib.Omega.{arith}
use borrow.Author.Count.{below_more}
use borrow.Author.Tests.{lt-ltb, le-ltb, le-leb, leb-true, leb-false, ltb-true, ltb-false, ne_eqb}
use lib.Dec.{leb, ltb, eqb}
use lib.ListN.{length, get_or, take, drop, set, replicate, take-append-drop, drop_of_length-le}
use lib.Seq.{drop-drop, drop-append_seam, get_or-set_same, get_or-set_other}
use Rattle.wire.specs.Text.{text_len, zeros, LastZeros}
use Rattle.wire.proofs.Orders.{if_zero, if_skip}
use Rattle.wire.proofs.Parts.{rest_of}
use Rattle.wire.proofs.Texts.{zeros_append, zeros_at, zeros_zero}
use Rattle.mlg_rules.specs.Types.{size_of, first_bit_type}
use Rattle.mlg_rules.specs.Field.{type_number}
use Rattle.mlg_rules.specs.Area.{ended, area_of}
use Rattle.mlg_rules.proofs.TypeLaws.{size_plain}
use Rattle.mlg_rules.proofs.AreaLaws.{ended_from, ended_length, area_length, area_past}

-- what is left has no more zeros
drop_zeros : (n : ℕ) (s : List ℕ) → zeros (drop n s) ≤ zeros s
drop_zeros zero s = omega arith
drop_zeros (suc n) [] = omega arith
drop_zeros (suc n) (zero ∷ s) = omega (arith, drop_zeros n s)
drop_zeros (suc n) (suc b ∷ s) = drop_zeros n s

zeros_fewer : (s : List ℕ) (a b : ℕ) → a ≤ b → zeros (drop b s) ≤ zeros (drop a s)
zeros_fewer s a b h =
    let e : a + (b - a) ≡ b = omega arith in
    omega (arith, drop_zeros (b - a) (drop a s), ap zeros (drop-drop (b - a) a s), ap (λ (k : ℕ). zeros (drop k s)) e)

-- a part without a zero before a place
pub part_before : (s : List ℕ) (a b : ℕ) → a ≤ b → zeros (take (b - a) (drop a s)) ≡ 0 → zeros (drop a s) ≡ zeros (drop b s)
part_before s a b h none =
    let e : a + (b - a) ≡ b = omega arith in
    let parts = ap zeros (take-append-drop (b - a) (drop a s)) in
    omega (
      arith,
      none,
      parts,
      zeros_append (take (b - a) (drop a s)) (drop (b - a) (drop a s)),
      ap zeros (drop-drop (b - a) a s),
      ap (λ (k : ℕ). zeros (drop k s)) e,
    )

-- two tests that hold together
tests_agree : (a b c d : ℕ) → (c ≤ d → a < b) → (d < c → b ≤ a) → (t : Bool) → leb c d ≡ t → ltb a b ≡ t
tests_agree a b c d f g true e = lt-ltb a b (f (leb-true c d e))
tests_agree a b c d f g false e = le-ltb a b (g (leb-false c d e))

-- the place z, counted from 1, of a zero with k zeros after it
module _ (s : List ℕ) (z k : ℕ) (some : z ≡ 0 → ⊥) (after : zeros (drop z s) ≡ k) (here : zeros (drop (z - 1) s) ≡ 1 + k) where
  pub zero_place : (at : ℕ) → ltb (zeros (drop at s)) (k + 1) ≡ leb z at
  zero_place at =
      tests_agree (zeros (drop at s)) (k + 1) z at
      (λ l. omega (arith, zeros_fewer s z at l)) (λ l. omega (arith, zeros_fewer s at (z - 1) (omega arith))) _ refl

-- the first k places are found
pub record Found (s last : List ℕ) (k : ℕ) : Type 0 where
  pub places : (n : ℕ) → n < k → (at : ℕ) → ltb (zeros (drop at s)) (n + 1) ≡ leb (get_or last n 0) at
  pub none : (n : ℕ) → k ≤ n → get_or last n 0 ≡ 0

pub found_none : (s last : List ℕ) → ((n : ℕ) → get_or last n 0 ≡ 0) → Found s last 0
found_none s last h = record { places = λ n l. absurd (omega arith); none = λ n l. h n }

-- one more
pub found_next : (s last : List ℕ) (z k : ℕ) → (z ≡ 0 → ⊥) → zeros (drop z s) ≡ k → zeros (drop (z - 1) s) ≡ 1 + k → k < length last
    → Found s last k → Found s (set last k z) (k + 1)
found_next s last z k some after here room f =
    record {
      places =
          below_more (λ (n : ℕ). (at : ℕ) → ltb (zeros (drop at s)) (n + 1) ≡ leb (get_or (set last k z) n 0) at) k
          (λ n l at. f.places n l at ∙ ap (λ (p : ℕ). leb p at) (sym (get_or-set_other last k n z 0 (λ e. omega arith))))
          (λ at. zero_place s z k some after here at ∙ ap (λ (p : ℕ). leb p at) (sym (get_or-set_same last k z 0 room)));
      none = λ n l. get_or-set_other last k n z 0 (λ e. omega arith) ∙ f.none n (omega arith);
    }

-- all 32, or all that there are
pub found_all : (s last : List ℕ) (k : ℕ) → 32 ≤ k → Found s last k → LastZeros s last
found_all s last k h f n at l = f.places n (omega arith) at

pub found_last : (s last : List ℕ) (k : ℕ) → zeros s ≡ k → Found s last k → LastZeros s last
found_last s last k h f n at l = decide (ltb n k) refl
  where
    decide : (t : Bool) → ltb n k ≡ t → ltb (zeros (drop at s)) (n + 1) ≡ leb (get_or last n 0) at
    decide true e = f.places n (ltb-true n k e) at
    decide false e =
        let p : zeros (drop at s) < n + 1 = omega (arith, drop_zeros at s, ltb-false n k e) in
        let q : get_or last n 0 ≤ at = omega (arith, f.none n (ltb-false n k e)) in
        lt-ltb (zeros (drop at s)) (n + 1) p ∙ sym (le-leb (get_or last n 0) at q)

-- a text without a zero has none
text_zeros : (l : List ℕ) → length l ≤ text_len l → zeros l ≡ 0
text_zeros [] h = refl
text_zeros (zero ∷ l) h = absurd (omega arith)
text_zeros (suc b ∷ l) h = text_zeros l (omega arith)

-- the zeros of info without a zero and of the one after it
pub info_zeros : (i : List ℕ) → (length i ≡ 0 → ⊥) → length i ≤ text_len i → zeros (ended i) ≡ 1
info_zeros i h t = omega (arith, ended_from i 0 h (omega arith), text_zeros i t)

-- no place yet
blank : (m n : ℕ) → ◌≡◌ {A = ℕ} (get_or (replicate m 0) n 0) 0
blank zero n = refl
blank (suc m) zero = refl
blank (suc m) (suc n) = blank m n

-- the zero after info is the last
last_zero : (n i : List ℕ) → (length i ≡ 0 → ⊥) → zeros (drop (length (area_of n i) - 1) (area_of n i)) ≡ 1
last_zero n i h =
    let k = length (area_of n i) - 1 in
    let m : k - length n ≡ length i = omega (arith, area_length n i, ended_length i h) in
    let p : length n ≤ k = omega (arith, area_length n i, ended_length i h) in
    omega (
      arith,
      ap zeros (area_past n i k p),
      ap (λ (j : ℕ). zeros (drop j (ended i))) m,
      ended_from i (length i) h (omega arith),
      ap zeros (drop_of_length-le i {i = length i} (omega arith)),
    )

-- the place of the zero after info, with which the search in the names begins
pub info_found : (n i : List ℕ) (z k : ℕ) → (length i ≡ 0 → z ≡ 0) → ((length i ≡ 0 → ⊥) → z ≡ length (area_of n i)) → k ≡ zeros (ended i)
    → length i ≤ text_len i → Found (area_of n i) (set (replicate 32 0) 0 z) k
info_found n [] z k f g e t =
    let first : z ≡ 0 = f refl in
    rw (first, e) (found_none (area_of n []) (replicate 32 0) (blank 32))
info_found n (b ∷ bs) z k f g e t =
    let some : length (b ∷ bs) ≡ 0 → ⊥ = λ h. omega arith in
    let one : k ≡ 1 = e ∙ info_zeros (b ∷ bs) some t in
    rw (g some, one) (found_next (area_of n (b ∷ bs)) (replicate 32 0) (length (area_of n (b ∷ bs))) 0 (λ h. omega (arith, area_length n (b ∷ bs)))
    (ap zeros (drop_of_length-le (area_of n (b ∷ bs)) {i = length (area_of n (b ∷ bs))} (omega arith))) (last_zero n (b ∷ bs) some) (omega arith)
    (found_none (area_of n (b ∷ bs)) (replicate 32 0) (blank 32)))

-- zeros of the area from a place of the names on, and from their end on
pub names_none : (n i : List ℕ) → zeros (drop (length n) (area_of n i)) ≡ zeros (ended i)
unfolding area_of
names_none n i = ap zeros (drop-append_seam n (ended i))

-- the tests, by the places
pub names_lack : (s last : List ℕ) (bits at : ℕ) → LastZeros s last → (bits ≡ 0 → ⊥) → bits ≤ 32
    → ltb (zeros (drop at s)) bits ≡ leb (get_or last (bits - 1) 0) at
names_lack s last bits at h some few = let e : bits - 1 + 1 ≡ bits = omega arith in rw e at (h (bits - 1) at (omega arith))

pub info_lacks : (s last : List ℕ) (at : ℕ) → LastZeros s last → leb (get_or last 0 0) at ≡ eqb (zeros (drop at s)) 0
info_lacks s last at h = sym (h 0 at (omega arith)) ∙ fewer (zeros (drop at s))
  where
    fewer : (n : ℕ) → ltb n (0 + 1) ≡ eqb n 0
    fewer zero = refl
    fewer (suc n) = le-ltb (suc n) 1 (omega arith) ∙ sym (ne_eqb (suc n) 0 (λ e. omega arith))

-- a bit field that stands has no more bits than places are kept
pub bits_most : (t b : ℕ) → type_number t b ≡ 0 → first_bit_type ≤ t → b ≤ 32
unfolding type_number
bits_most t b z h =
    let p = (if_zero 23 _ _ z).1 in
    omega (arith, ltb-false (8 * size_of t) b (if_zero 23 _ _ (if_skip 0 _ _ (le-ltb t first_bit_type h) p)).0, size_plain t (λ e. omega arith))
