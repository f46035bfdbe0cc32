-- A header's bytes, as they are put.
use Prim.Native.Nat.{ℕ, ◌+◌, ◌≤◌}
use mathlib.Core.Path.{◌≡◌, refl, sym, ap, ◌∙◌}
use mathlib.Core.List.{List, [], ◌∷◌, ◌++◌, append_assoc, append-nil}
use native.Mathlib.Omega.{arith}
use borrow.Author.Tests.{ltb-false}
use lib.ListN.{length, take, length-append, take-append-drop}
use lib.Seq.{length-take-le}
use Rattle.wire.specs.Put.{put_at, put_of}
use Rattle.wire.specs.Writer.{leaves}
use Rattle.wire.proofs.Orders.{if_zero, else_zero}
use Rattle.wire.proofs.Puts.{put_fits}
use Rattle.wire.proofs.Writes.{put_first, put_more, left, over}
use Rattle.mlg_rules.specs.Layout.{layout_of, header_len}
use Rattle.mlg_rules.specs.Area.{ended, area_of, info_start}
use Rattle.mlg_rules.specs.Writing.{number_bytes, header_for, header_bytes, lengths_number, write_header_number}
use Rattle.mlg_rules.specs.Header.{body_number}
use Rattle.mlg_rules.specs.declared.Header.{Header}
use Rattle.mlg_rules.proofs.AreaLaws.{ended_some, ended_none, ended_length, area_length}

pub start_none : (at : ℕ) (l : List ℕ) → length l ≡ 0 → 0 ≡ info_start at l
start_none at [] h = refl
start_none at (b ∷ l) h = absurd (omega arith)

pub start_some : (at : ℕ) (l : List ℕ) → (length l ≡ 0 → ⊥) → at ≡ info_start at l
start_some at [] h = absurd (h refl)
start_some at (b ∷ l) h = refl

pub start_most : (at : ℕ) (l : List ℕ) → info_start at l ≤ at
start_most at [] = omega arith
start_most at (b ∷ l) = omega arith

-- nothing is put
put_nothing : (out : List ℕ) (at : ℕ) → out ≡ put_at out at []
unfolding put_at
put_nothing out at =
    let e : at + 0 ≡ at = omega arith in
    rw (append-nil, e) (sym (take-append-drop at out))

pub put_empty : (out : List ℕ) (at : ℕ) (l : List ℕ) → length l ≡ 0 → at + length (ended l) ≤ length out → out ≡ put_of out at (ended l)
put_empty out at l h k = rw (ended_none l h) (put_nothing out at ∙ sym (put_fits out at [] (rw (ended_none l h) at k)))

-- info and its zero
pub put_zero : {x y : List ℕ} (out : List ℕ) (at : ℕ) (l : List ℕ) → (length l ≡ 0 → ⊥) → at + length (ended l) ≤ length out
    → x ≡ put_of out at l → y ≡ put_of x (at + length l) (0 ∷ []) → y ≡ put_of out at (ended l)
unfolding put_at
put_zero {x} {y} out at l h k p q =
    let el = ended_length l h in
    let k' = length-take-le at out (omega arith) in
    let n : at + length l ≡ length (take at out ++ l) = sym (length-append (take at out) l ∙ ap (λ (m : ℕ). m + length l) k') in
    let p' = p ∙ put_fits out at l (omega arith) in
    let r : x ≡ over (take at out ++ l) out = rw (← n) p' in
    let s = put_more out (take at out ++ l) (0 ∷ []) (at + length l) n (omega arith) r q in
    let m : length ((take at out ++ l) ++ (0 ∷ [])) ≡ at + length (l ++ (0 ∷ []))
    = length-append (take at out ++ l) (0 ∷ []) ∙ rw (← n, length-append l (0 ∷ [])) (omega arith) in
    let t : over ((take at out ++ l) ++ (0 ∷ [])) out ≡ put_at out at (ended l) = rw (ended_some l h, m, append_assoc (take at out) l (0 ∷ [])) in
    s ∙ t ∙ sym (put_fits out at (ended l) k)

pub number_length : (h : Header) → length (number_bytes h) ≡ header_len h.version
unfolding number_bytes layout_of
number_length h = refl

module _ (v time : ℕ) (fields names info : List ℕ) where
  version_is : (header_for v time fields names info).version ≡ v
  unfolding header_for
  version_is = refl

  pub first_length : length (number_bytes (header_for v time fields names info)) ≡ header_len v
  first_length = number_length (header_for v time fields names info) ∙ ap header_len version_is

  pub header_length : length (header_bytes v time fields names info) ≡ header_len v + length fields + length (area_of names info)
  unfolding header_bytes
  header_length =
      length-append (number_bytes (header_for v time fields names info)) (fields ++ area_of names info)
      ∙ rw (first_length, length-append fields (area_of names info)) (omega arith)

  joined : (a : List ℕ) → a ++ (fields ++ area_of names info) ≡ ((a ++ fields) ++ names) ++ ended info
  unfolding area_of
  joined a = simp append_assoc

  pub header_put : {x y z w : List ℕ} (out first : List ℕ) (n : ℕ) → first ≡ number_bytes (header_for v time fields names info) → n ≡ header_len v
      → length (header_bytes v time fields names info) ≤ length out
      → x ≡ put_of out 0 first → y ≡ put_of x n fields → z ≡ put_of y (n + length fields) names → w ≡ put_of z (n + length fields + length names) (ended info)
      → w ≡ leaves 0 (header_bytes v time fields names info) out
  unfolding header_bytes
  header_put out first n e en room p q r s =
      let l : n ≡ length first = sym (ap length e ∙ first_length ∙ sym en) in
      let hl = header_length in
      let al = area_length names info in
      let m = length-append first fields in
      let k = length-append (first ++ fields) names in
      let p' = put_first out first (omega arith) p in
      let q' = put_more out first fields n l (omega arith) p' q in
      let r' = put_more out (first ++ fields) names (n + length fields) (omega arith) (omega arith) q' r in
      let s' = put_more out ((first ++ fields) ++ names) (ended info) (n + length fields + length names) (omega arith) (omega arith) r' s in
      rw (← e, joined first) (s' ∙ sym (left 0 _ out refl))

-- what follows where no number refuses
pub header_fits : (v time : ℕ) (fields names info : List ℕ) (room : ℕ) → write_header_number v time fields names info room ≡ 0
    → (lengths_number v fields names info ≡ 0) × (body_number (header_for v time fields names info) fields (area_of names info) ≡ 0)
    × (length (header_bytes v time fields names info) ≤ room)
unfolding write_header_number
header_fits v time fields names info room z =
    let a = else_zero _ _ z in
    let b = else_zero _ _ a.1 in
    (a.0, b.0, ltb-false _ _ (if_zero 26 _ _ b.1).0)
