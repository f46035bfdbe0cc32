-- Laws of reading a block: which case of a definition holds, by what a reader tested. These laws, and not the definitions, are what proofs cite.
use Prim.Native.Nat.{ℕ, zero, suc, ◌+◌, ◌<◌, ◌≤◌}
use mathlib.Core.Path.{◌≡◌, refl, sym, ap, ◌∙◌}
use mathlib.Core.Bool.{Bool, true, false, cond}
use mathlib.Core.List.{List}
use native.Mathlib.Omega.{arith}
use borrow.Author.Tests.{eq-eqb, ne_eqb, eqb-true, eqb-false, lt-ltb, le-ltb, ltb-true, ltb-false}
use lib.Dec.{eqb, ltb}
use Rattle.std.proofs.Common.{Option, Some, None}
use lib.ListN.{length, drop, length-drop}
use Rattle.wire.specs.Log.{judged, end_kind, refused_kind}
use Rattle.wire.proofs.Orders.{order, if_yes, if_no, if_zero, if_skip}
use Rattle.frd_rules.specs.Block.{counter_after, block_len, some_len, type_in, counter_in, time_in, record_place}
use Rattle.frd_rules.specs.Block.{rest_number, found_of, block_of, read_block_number, read_block_of}
use Rattle.frd_rules.specs.Block.{BlockAnswer, no_block, block_answer, data_values, time_values, found_values, block_result}
use Rattle.frd_rules.specs.declared.Block.{Block}
use Rattle.frd_rules.specs.declared.Block.TheVariants.{Data, Time, End, Refused}

-- a block that a number refuses or that none does
pub block_refused : (n at : ℕ) (b : Block) (x : ℕ) → x ≡ n → (x ≡ 0 → ⊥) → Refused x at ≡ judged Refused n at b
unfolding judged
block_refused zero at b x e k = absurd (k e)
block_refused (suc n) at b x e k = ap (λ (m : ℕ). Refused m at) e

pub block_stands : (n at : ℕ) (b : Block) → n ≡ 0 → judged Refused n at b ≡ b
unfolding judged
block_stands zero at b e = refl
block_stands (suc n) at b e = absurd (omega arith)

-- lengths by type
pub data_len : (l k : ℕ) → k ≡ 1 → block_len l k ≡ l + 2
unfolding block_len
data_len l k e = sym (if_yes (l + 2) (eqb k 1) _ (eq-eqb k 1 e))

pub time_len : (l k : ℕ) → k ≡ 2 → block_len l k ≡ 6
unfolding block_len
time_len l k e = sym (if_no (l + 2) (eqb k 1) _ 6 (ne_eqb k 1 (λ z. omega arith)) (if_yes 6 (eqb k 2) 0 (eq-eqb k 2 e)))

pub no_len : (l k : ℕ) → (k ≡ 1 → ⊥) → (k ≡ 2 → ⊥) → block_len l k ≡ 0
unfolding block_len
no_len l k a b = sym (if_no (l + 2) (eqb k 1) _ 0 (ne_eqb k 1 a) (if_no 6 (eqb k 2) 0 0 (ne_eqb k 2 b) refl))

-- as options
pub len_known : (l k n : ℕ) → n ≡ block_len l k → 0 < n → Some n ≡ some_len (block_len l k)
len_known l k zero e h = absurd (omega arith)
len_known l k (suc n) e h = rw (← e)

pub len_unknown : (l k : ℕ) → (k ≡ 1 → ⊥) → (k ≡ 2 → ⊥) → None ≡ some_len (block_len l k)
len_unknown l k a b = rw (no_len l k a b)

pub len_none : (n : ℕ) → None ≡ some_len n → n ≡ 0
len_none zero e = refl
len_none (suc n) e = absurd (let z : ◌≡◌ {A = Option ℕ} None (Some (suc n)) = e in cc)

pub len_some : (n m : ℕ) → Some m ≡ some_len n → (n ≡ m) × (n ≡ 0 → ⊥)
len_some zero m e = absurd (let z : ◌≡◌ {A = Option ℕ} (Some m) None = e in cc)
len_some (suc n) m e = (cc, λ z. omega arith)

-- the type of a block that has a length
pub data BlockType (k : ℕ) : Type 0 where
  is_data : k ≡ 1 → BlockType k
  is_time : k ≡ 2 → BlockType k
  is_none : (k ≡ 1 → ⊥) → (k ≡ 2 → ⊥) → BlockType k

block_type_by : (k : ℕ) (a b : Bool) → eqb k 1 ≡ a → eqb k 2 ≡ b → BlockType k
block_type_by k true b p q = is_data (eqb-true _ _ p)
block_type_by k false true p q = is_time (eqb-true _ _ q)
block_type_by k false false p q = is_none (eqb-false _ _ p) (eqb-false _ _ q)

pub block_type : (k : ℕ) → BlockType k
block_type k = block_type_by k _ _ refl refl

-- what is found in the rest of the file
module _ (c at : ℕ) (t : List ℕ) where
  pub found_end : length t ≡ 0 → found_of c at t ≡ End
  unfolding found_of
  found_end h = rw (eq-eqb (length t) 0 h)

  pub found_data : (length t ≡ 0 → ⊥) → type_in t ≡ 1 → found_of c at t ≡ Data (counter_in t) (record_place at) (eqb (counter_in t) c)
  unfolding found_of
  found_data h e = rw (ne_eqb (length t) 0 h, eq-eqb (type_in t) 1 e)

  pub found_time : (length t ≡ 0 → ⊥) → (type_in t ≡ 1 → ⊥) → found_of c at t ≡ Time (counter_in t) (time_in t) (eqb (counter_in t) c)
  unfolding found_of
  found_time h e = rw (ne_eqb (length t) 0 h, ne_eqb (type_in t) 1 e)

-- the number of the rest of the file, and what follows where it is 0
module _ (l : ℕ) (t : List ℕ) where
  rest_none : length t ≡ 0 → 0 ≡ rest_number l t
  unfolding rest_number
  rest_none h = search order depth 9

  pub rest_unknown : (length t ≡ 0 → ⊥) → block_len l (type_in t) ≡ 0 → 25 ≡ rest_number l t
  unfolding rest_number
  rest_unknown h e = search order depth 9

  pub rest_whole : (length t ≡ 0 → ⊥) → (block_len l (type_in t) ≡ 0 → ⊥) → block_len l (type_in t) ≤ length t → 0 ≡ rest_number l t
  unfolding rest_number
  rest_whole h a b = search order depth 12

  rest_known : (length t ≡ 0 → ⊥) → rest_number l t ≡ 0 → (block_len l (type_in t) ≡ 0 → ⊥) × (block_len l (type_in t) ≤ length t)
  unfolding rest_number
  rest_known h e =
      let a = if_zero 24 _ _ (if_skip 0 _ _ (ne_eqb (length t) 0 h) e) in
      let b = if_zero 19 _ _ a.1 in
      (eqb-false _ _ a.0, ltb-false _ _ b.0)

-- nothing left is the end
block_end : (l c at : ℕ) (t : List ℕ) → length t ≡ 0 → block_of l c at t ≡ End
unfolding block_of
block_end l c at t h = block_stands _ at _ (sym (rest_none l t h)) ∙ found_end c at t h

-- known blocks have two bytes at least
two_bytes : (l k : ℕ) → (block_len l k ≡ 0 → ⊥) → 2 ≤ block_len l k
two_bytes l k h = by (block_type k)
  where
    by : BlockType k → 2 ≤ block_len l k
    by (is_data e) = omega (arith, data_len l k e)
    by (is_time e) = omega (arith, time_len l k e)
    by (is_none a b) = absurd (h (no_len l k a b))

-- so the rest of a file that no number refuses is not one byte
pub rest_two : (l : ℕ) (t : List ℕ) → rest_number l t ≡ 0 → length t ≡ 1 → ⊥
rest_two l t e h = let k = rest_known l t (λ z. omega arith) e in omega (arith, two_bytes l (type_in t) k.0, k.1)

-- a place of a file
module _ (l n : ℕ) (f : List ℕ) (at : ℕ) where
  at_past : length f < at → Refused 23 at ≡ read_block_of l n f at
  unfolding read_block_of read_block_number
  at_past h = block_refused _ at _ 23 (if_yes 23 _ _ (lt-ltb _ _ h)) (λ z. omega arith)

  -- a number that is 0 refuses nothing, any other the block
  pub at_found : read_block_number l f at ≡ 0 → found_of (counter_after n) at (drop at f) ≡ read_block_of l n f at
  unfolding read_block_of
  at_found h = sym (block_stands _ at _ h)

  pub at_refused : (x : ℕ) → x ≡ read_block_number l f at → (x ≡ 0 → ⊥) → Refused x at ≡ read_block_of l n f at
  unfolding read_block_of
  at_refused x h k = block_refused _ at _ x h k

  pub at_within : at ≤ length f → read_block_of l n f at ≡ block_of l (counter_after n) at (drop at f)
  unfolding read_block_of block_of read_block_number
  at_within h =
      ap (λ (m : ℕ). judged Refused m at (found_of (counter_after n) at (drop at f)))
      (sym (if_no 23 _ _ (rest_number l (drop at f)) (le-ltb _ _ h) refl))

  -- the end of the file
  pub at_end_of : at ≡ length f → read_block_of l n f at ≡ End
  at_end_of h = at_within (omega arith) ∙ block_end l _ at (drop at f) (omega (arith, length-drop at f))

-- a place whose number is 0 lies within the file, and nothing refuses the rest from there on
pub at_good : (l : ℕ) (f : List ℕ) (at : ℕ) → read_block_number l f at ≡ 0 → (at ≤ length f) × (rest_number l (drop at f) ≡ 0)
unfolding read_block_number
at_good l f at e = let a = if_zero 22 _ _ e in (ltb-false _ _ a.0, a.1)

-- what a block's answer says
judged_values : (n at : ℕ) (b : Block) (v : BlockAnswer) → block_answer b ≡ v → block_answer (judged Refused n at b) ≡ judged (no_block refused_kind) n at v
unfolding judged block_answer
judged_values zero at b v e = e
judged_values (suc n) at b v e = refl

found_values_lem : (c at : ℕ) (t : List ℕ) → block_answer (found_of c at t) ≡ found_values c at t
unfolding found_of found_values block_answer
found_values_lem c at t = by (eqb (length t) 0) (eqb (type_in t) 1)
  where
    by : (a b : Bool)
        → block_answer
        (cond a End
        (cond b (Data (counter_in t) (record_place at) (eqb (counter_in t) c)) (Time (counter_in t) (time_in t) (eqb (counter_in t) c))))
        ≡ cond a (no_block end_kind 0 0) (cond b (data_values c at t) (time_values c t))
    by true b = refl
    by false true = refl
    by false false = refl

pub block_means : (l n : ℕ) (f : List ℕ) (at : ℕ) (r : Block) → r ≡ read_block_of l n f at
    → (r ≡ read_block_of l n f at) × (block_answer r ≡ block_result l n f at)
unfolding read_block_of block_result
block_means l n f at r e =
    (e, ap block_answer e ∙ judged_values (read_block_number l f at) at _ _ (found_values_lem (counter_after n) at (drop at f)))

-- its number is that of the place
judged_number : (n at : ℕ) (b : Block) → (block_answer b).number ≡ 0 → (block_answer (judged Refused n at b)).number ≡ n
unfolding judged block_answer
judged_number zero at b e = e
judged_number (suc n) at b e = refl

found_number : (c at : ℕ) (t : List ℕ) → (block_answer (found_of c at t)).number ≡ 0
unfolding found_of block_answer
found_number c at t = by_test (eqb (length t) 0) (eqb (type_in t) 1)
  where
    by_test : (x y : Bool)
        → (block_answer (cond x End (cond y (Data (counter_in t) (record_place at) (eqb (counter_in t) c))
        (Time (counter_in t) (time_in t) (eqb (counter_in t) c))))).number
        ≡ 0
    by_test true y = refl
    by_test false true = refl
    by_test false false = refl

pub number_there : (l n : ℕ) (f : List ℕ) (at : ℕ) → (block_answer (read_block_of l n f at)).number ≡ read_block_number l f at
unfolding read_block_of
number_there l n f at = judged_number _ at _ (found_number (counter_after n) at (drop at f))

-- what stands at a place of a file after n blocks, and the facts of each case; t is the rest of the file from there on
pub data View (l n : ℕ) (f : List ℕ) (at : ℕ) (t : List ℕ) : Type 0 where
  at_end_lem : at ≡ length f → read_block_of l n f at ≡ End → View l n f at t
  of_data_lem : type_in t ≡ 1 → at + (l + 2) ≤ length f
      → read_block_of l n f at ≡ Data (counter_in t) (record_place at) (eqb (counter_in t) (counter_after n)) → View l n f at t
  of_time : type_in t ≡ 2 → at + 6 ≤ length f
      → read_block_of l n f at ≡ Time (counter_in t) (time_in t) (eqb (counter_in t) (counter_after n)) → View l n f at t
  of_refusal : (m : ℕ) → (m ≡ 0 → ⊥) → read_block_of l n f at ≡ Refused m at → View l n f at t

module _ (l n : ℕ) (f : List ℕ) (at : ℕ) where
  abbrev t : List ℕ
  t = drop at f

  abbrev c : ℕ
  c = counter_after n

  -- at a place within the file
  module _ (within : at ≤ length f) where
    whole : rest_number l t ≡ 0 → read_block_of l n f at ≡ found_of c at t
    unfolding block_of
    whole z = at_within l n f at within ∙ block_stands _ at _ z

    view_whole : BlockType (type_in t) → (length t ≡ 0 → ⊥) → rest_number l t ≡ 0 → View l n f at t
    view_whole (is_data e) h z =
        of_data_lem e (omega (arith, (rest_known l t h z).1, data_len l (type_in t) e, length-drop at f)) (whole z ∙ found_data c at t h e)
    view_whole (is_time e) h z =
        of_time e (omega (arith, (rest_known l t h z).1, time_len l (type_in t) e, length-drop at f)) (whole z ∙ found_time c at t h (λ w. omega arith))
    view_whole (is_none a b) h z = absurd ((rest_known l t h z).0 (no_len l (type_in t) a b))

    view_some : (m : ℕ) → rest_number l t ≡ m → (length t ≡ 0 → ⊥) → View l n f at t
    unfolding block_of
    view_some zero z h = view_whole (block_type (type_in t)) h z
    view_some (suc m) z h =
        of_refusal (suc m) (λ w. omega arith)
        (at_within l n f at within ∙ sym (block_refused _ at _ (suc m) (sym z) (λ w. omega arith)))

    view_within : (b : Bool) → eqb (length t) 0 ≡ b → View l n f at t
    view_within true q =
        let e = eqb-true (length t) 0 q in
        let z : at ≡ length f = omega (arith, length-drop at f) in
        at_end_lem z (at_end_of l n f at z)
    view_within false q = view_some _ refl (eqb-false (length t) 0 q)

  view_by : (b : Bool) → ltb (length f) at ≡ b → View l n f at t
  view_by true q = of_refusal 23 (λ w. omega arith) (sym (at_past l n f at (ltb-true _ _ q)))
  view_by false q = view_within (ltb-false _ _ q) _ refl

  pub view : View l n f at (drop at f)
  view = view_by _ refl
