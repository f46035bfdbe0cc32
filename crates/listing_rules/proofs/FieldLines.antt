-- The lines of fields, one by one.
use Prim.Native.Nat.{ℕ, suc, ◌+◌, ◌-◌, ◌*◌, ◌≤◌, ◌<◌}
use mathlib.Core.Path.{◌≡◌, refl, ◌∙◌}
use mathlib.Core.List.{List, [], ◌++◌}
use native.Mathlib.Omega.{arith}
use lib.ListN.{length, take, drop}
use lib.Seq.{take_at, drop_at}
use Rattle.wire.proofs.Parts.{tail_part}
use Rattle.mlg_rules.specs.Layout.{layout_of, header_len, field_len}
use Rattle.listing_rules.specs.Lines.{field_line, field_lines}

-- the next field's line
pub field_next : (v i n : ℕ) (t : List ℕ) → i < n
    → field_lines v i (n - i) t ≡ field_line i (take (field_len v) t) ++ field_lines v (i + 1) (n - (i + 1)) (drop (field_len v) t)
field_next v i n t h = let e : n - i ≡ suc (n - (i + 1)) = omega arith in rw e

-- of a field that is cut off
pub field_cut : (v i n : ℕ) (t field rest : List ℕ) → i < n → t ≡ field ++ rest → length field ≡ 89
    → field_lines v i (n - i) t ≡ field_line i field ++ field_lines v (i + 1) (n - (i + 1)) rest
unfolding layout_of
field_cut v i n t field rest h e l = rw e (field_next v i n (field ++ rest) h ∙ rw (take_at field rest 89 l, drop_at field rest 89 l))

pub field_none : (v i n : ℕ) (t : List ℕ) → n ≤ i → field_lines v i (n - i) t ≡ []
field_none v i n t h = let e : n - i ≡ 0 = omega arith in rw e

pub fields_all : (v n : ℕ) (t : List ℕ) → field_lines v 0 (n - 0) t ≡ field_lines v 0 n t
fields_all v n t = let e : n - 0 ≡ n = omega arith in rw e

-- the fields' bytes, as the code cuts them
pub cut_lines : (v n : ℕ) (f : List ℕ) (header : ℕ) → header ≡ header_len v
    → field_lines v 0 n (take (length f - header) (drop header f)) ≡ field_lines v 0 n (drop (header_len v) f)
cut_lines v n f header e = rw (tail_part f header, e)

-- numbers of the layout
pub len_89 : (v : ℕ) → field_len v ≡ 89
unfolding layout_of
len_89 v = refl

pub fields_fit : (v n l : ℕ) → field_len v * n ≤ l → 89 * n ≤ l
unfolding layout_of
fields_fit v n l h = h
