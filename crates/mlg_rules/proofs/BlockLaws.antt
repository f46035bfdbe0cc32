-- Which case of a block's definition holds, by what a reader tested. These laws, and not the definitions, are what proofs cite.
use Prim.Native.Nat.{ℕ, zero, suc, ◌+◌, ◌<◌, ◌≤◌}
use mathlib.Core.Path.{◌≡◌, refl, sym, ap, ◌∙◌}
use mathlib.Core.Bool.{Bool, true, false}
use mathlib.Core.List.{List, [], ◌∷◌}
use native.Mathlib.Omega.{arith}
use borrow.Author.Tests.{lt-leb, lt-ltb, le-ltb, eq-eqb, ne_eqb, eqb-true, eqb-false, ltb-false, leb-false}
use lib.Dec.{eqb}
use lib.ListN.{length, drop}
use Rattle.wire.specs.Sum.{sum_of}
use Rattle.wire.specs.Text.{text_len}
use Rattle.wire.proofs.Orders.{if_yes, if_no, if_zero, not_no, not-false}
use Rattle.wire.specs.Log.{judged, refused_kind}
use Rattle.std.proofs.Common.{Option, Some, None}
use Rattle.mlg_rules.specs.Block.{counter_after, block_len, some_len, type_in, counter_in, time_in, record_in, sum_in, text_in, last_of}
use Rattle.mlg_rules.specs.Block.{rest_number, parts_of, block_of, place_number, read_block_of}
use Rattle.mlg_rules.specs.Block.{BlockAnswer, no_block, block_answer, part_values, rest_result, block_result}
use Rattle.mlg_rules.specs.declared.Block.{Block}
use Rattle.mlg_rules.specs.declared.Block.TheVariants.{Data, Mark, End, Refused}

-- the length of a block by its type
pub len_data : (l k : ℕ) → k ≡ 0 → block_len l k ≡ l + 5
unfolding block_len
len_data l zero e = refl
len_data l (suc k) e = absurd (omega arith)

pub len_mark : (l k : ℕ) → k ≡ 1 → block_len l k ≡ 54
unfolding block_len
len_mark l zero e = absurd (omega arith)
len_mark l (suc zero) e = refl
len_mark l (suc (suc k)) e = absurd (omega arith)

pub len_none : (l k : ℕ) → (k ≡ 0 → ⊥) → (k ≡ 1 → ⊥) → block_len l k ≡ 0
unfolding block_len
len_none l zero e f = absurd (e refl)
len_none l (suc zero) e f = absurd (f refl)
len_none l (suc (suc k)) e f = refl

-- a type that has a length and is not data is a mark
pub known_mark : (l k : ℕ) → (block_len l k ≡ 0 → ⊥) → (k ≡ 0 → ⊥) → k ≡ 1
unfolding block_len
known_mark l zero h e = absurd (e refl)
known_mark l (suc zero) h e = refl
known_mark l (suc (suc k)) h e = absurd (h refl)

-- as options
pub len_known : (l k n : ℕ) → n ≡ block_len l k → 0 < n → Some n ≡ some_len (block_len l k)
len_known l k zero e h = absurd (omega arith)
len_known l k (suc n) e h = rw (← e)

pub len_unknown : (l k : ℕ) → (k ≡ 0 → ⊥) → (k ≡ 1 → ⊥) → None ≡ some_len (block_len l k)
len_unknown l k a b = rw (len_none l k a b)

pub none_len : (n : ℕ) → None ≡ some_len n → n ≡ 0
none_len zero e = refl
none_len (suc n) e = absurd (let z : ◌≡◌ {A = Option ℕ} None (Some (suc n)) = e in cc)

pub known_len : (n m : ℕ) → Some m ≡ some_len n → (n ≡ m) × (n ≡ 0 → ⊥)
known_len zero m e = absurd (let z : ◌≡◌ {A = Option ℕ} (Some m) None = e in cc)
known_len (suc n) m e = (cc, λ z. omega arith)

-- a block refused, and one that stands
pub judged_no : (n at : ℕ) (b : Block) (x : ℕ) → x ≡ n → (x ≡ 0 → ⊥) → Refused x at ≡ judged Refused n at b
unfolding judged
judged_no zero at b x e k = absurd (k e)
judged_no (suc n) at b x e k = ap (λ (m : ℕ). Refused m at) e

pub judged_yes : (n at : ℕ) (b : Block) → n ≡ 0 → judged Refused n at b ≡ b
unfolding judged
judged_yes zero at b e = refl
judged_yes (suc n) at b e = absurd (omega arith)

module _ (l c at : ℕ) where
  pub block_end : (t : List ℕ) → length t ≡ 0 → block_of l c at t ≡ End
  unfolding block_of
  block_end [] h = refl
  block_end (b ∷ t) h = absurd (omega arith)

  pub block_here : (t : List ℕ) → (length t ≡ 0 → ⊥) → block_of l c at t ≡ judged Refused (rest_number l t) at (parts_of (type_in t) c at t)
  unfolding block_of
  block_here [] h = absurd (h refl)
  block_here (b ∷ t) h = refl

pub at_past : (l n : ℕ) (f : List ℕ) (at : ℕ) → length f < at → read_block_of l n f at ≡ Refused 23 at
unfolding read_block_of place_number
at_past l n f at h = sym (judged_no _ at _ 23 (if_yes 23 _ 0 (lt-ltb _ _ h)) (λ z. omega arith))

pub at_within : (l n : ℕ) (f : List ℕ) (at : ℕ) → at ≤ length f → read_block_of l n f at ≡ block_of l (counter_after n) at (drop at f)
unfolding read_block_of place_number
at_within l n f at h = judged_yes _ at _ (sym (if_no 23 _ 0 0 (le-ltb _ _ h) refl))

-- what a block's answer says
judged_values : (l n at : ℕ) (b : Block) (v : BlockAnswer) → block_answer l b ≡ v
    → block_answer l (judged Refused n at b) ≡ judged (no_block refused_kind) n at v
unfolding judged block_answer
judged_values l zero at b v e = e
judged_values l (suc n) at b v e = refl

part_values_lem : (l k c at : ℕ) (t : List ℕ) → block_answer l (parts_of k c at t) ≡ part_values k l c at t
unfolding block_answer parts_of part_values
part_values_lem l zero c at t = refl
part_values_lem l (suc k) c at t = refl

rest_values : (l c at : ℕ) (t : List ℕ) → block_answer l (block_of l c at t) ≡ rest_result l c at t
unfolding block_of rest_result block_answer
rest_values l c at [] = refl
rest_values l c at (b ∷ t) = judged_values l _ at _ _ (part_values_lem l b c at (b ∷ t))

pub block_means : {r : Block} (l n : ℕ) (f : List ℕ) (at : ℕ) → r ≡ read_block_of l n f at
    → (r ≡ read_block_of l n f at) × (block_answer l r ≡ block_result l n f at)
unfolding read_block_of block_result
block_means l n f at e = (e, ap (block_answer l) e ∙ judged_values l _ at _ _ (rest_values l (counter_after n) at (drop at f)))

-- what a block that no number refuses keeps to
pub whole : (l : ℕ) (t : List ℕ) → rest_number l t ≡ 0
    → (block_len l (type_in t) ≡ 0 → ⊥) × (block_len l (type_in t) ≤ length t) × (last_of (type_in t) l t ≡ 0)
unfolding rest_number
whole l t e =
    let a = if_zero 24 _ _ e in
    let b = if_zero 19 _ _ a.1 in
    (eqb-false _ _ a.0, ltb-false _ _ b.0, b.1)

-- the parts, by the type
pub parts_data : (k c at : ℕ) (t : List ℕ) → k ≡ 0 → parts_of k c at t ≡ Data (counter_in t) (time_in t) (at + 4) (eqb (counter_in t) c)
unfolding parts_of
parts_data zero c at t e = refl
parts_data (suc k) c at t e = absurd (omega arith)

pub parts_mark : (k c at : ℕ) (t : List ℕ) → (k ≡ 0 → ⊥)
    → parts_of k c at t ≡ Mark (counter_in t) (time_in t) (at + 4) (text_len (text_in t)) (eqb (counter_in t) c)
unfolding parts_of
parts_mark zero c at t e = absurd (e refl)
parts_mark (suc k) c at t e = refl

-- how long a block that no number refuses is, by its type
pub data_whole : (l : ℕ) (t : List ℕ) → rest_number l t ≡ 0 → type_in t ≡ 0 → l + 5 ≤ length t
data_whole l t e k = rw (← len_data l (type_in t) k) (whole l t e).1

pub mark_whole : (l : ℕ) (t : List ℕ) → rest_number l t ≡ 0 → (type_in t ≡ 0 → ⊥) → 54 ≤ length t
mark_whole l t e k = rw (← len_mark l (type_in t) (known_mark l (type_in t) (whole l t e).0 k)) (whole l t e).1

-- five bytes at least
pub least : (l : ℕ) (t : List ℕ) (b : Bool) → eqb (type_in t) 0 ≡ b → rest_number l t ≡ 0 → 5 ≤ length t
least l t true k e = omega (arith, data_whole l t e (eqb-true _ _ k))
least l t false k e = omega (arith, mark_whole l t e (eqb-false _ _ k))

-- the last test of a block, by its type
pub last_data : (k l : ℕ) (t : List ℕ) → k ≡ 0 → sum_of (record_in l t) ≡ sum_in l t → 0 ≡ last_of k l t
unfolding last_of
last_data zero l t e s = if_no _ _ 0 0 (not_no _ (eq-eqb _ _ s)) refl
last_data (suc k) l t e s = absurd (omega arith)

pub last_mark : (k l : ℕ) (t : List ℕ) → k ≡ 1 → text_len (text_in t) < 50 → 0 ≡ last_of k l t
unfolding last_of
last_mark zero l t e s = absurd (omega arith)
last_mark (suc k) l t e s = if_no _ _ 0 0 (lt-leb _ _ s) refl

-- a block that stands
pub data_stands : (l : ℕ) (t : List ℕ) → type_in t ≡ 0 → l + 5 ≤ length t → sum_of (record_in l t) ≡ sum_in l t → rest_number l t ≡ 0
unfolding rest_number
data_stands l t k h s =
    let e = len_data l (type_in t) k in
    sym (if_no 25 _ _ 0 (ne_eqb _ _ (λ (z : block_len l (type_in t) ≡ 0). omega arith))
    (if_no 20 _ _ 0 (le-ltb (length t) (block_len l (type_in t)) (rw e h)) (last_data (type_in t) l t k s)))

pub mark_stands : (l : ℕ) (t : List ℕ) → type_in t ≡ 1 → 54 ≤ length t → text_len (text_in t) < 50 → rest_number l t ≡ 0
unfolding rest_number
mark_stands l t k h s =
    let e = len_mark l (type_in t) k in
    sym (if_no 25 _ _ 0 (ne_eqb _ _ (λ (z : block_len l (type_in t) ≡ 0). omega arith))
    (if_no 20 _ _ 0 (le-ltb (length t) (block_len l (type_in t)) (rw e h)) (last_mark (type_in t) l t k s)))

pub here_stands : (l c at : ℕ) (t : List ℕ) → (length t ≡ 0 → ⊥) → rest_number l t ≡ 0 → block_of l c at t ≡ parts_of (type_in t) c at t
here_stands l c at t h z = block_here l c at t h ∙ judged_yes _ at _ z

-- and what then holds of it
pub sum_stands : (k l : ℕ) (t : List ℕ) → k ≡ 0 → last_of k l t ≡ 0 → sum_of (record_in l t) ≡ sum_in l t
unfolding last_of
sum_stands zero l t e z = eqb-true _ _ (not-false _ (if_zero 25 _ _ z).0)
sum_stands (suc k) l t e z = absurd (omega arith)

pub text_ends : (k l : ℕ) (t : List ℕ) → (k ≡ 0 → ⊥) → last_of k l t ≡ 0 → text_len (text_in t) < 50
unfolding last_of
text_ends zero l t e z = absurd (e refl)
text_ends (suc k) l t e z = leb-false _ _ (if_zero 27 _ _ z).0
