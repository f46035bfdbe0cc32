-- The block reader gives each number exactly when the paper says.
use Prim.Native.Nat.{ℕ, zero, suc, ◌+◌, ◌≤◌, ◌<◌}
use mathlib.Core.Path.{◌≡◌, refl, sym, ap, ◌∙◌}
use mathlib.Core.Logic.{inl, inr, ◌≢◌}
use mathlib.Core.Bool.{Bool, true, false}
use mathlib.Core.List.{List, [], ◌∷◌}
use native.Mathlib.Omega.{arith}
use borrow.Author.Tests.{ltb-true, ltb-false, leb-true, leb-false, eqb-true, eqb-false, ne_eqb}
use lib.Dec.{eqb, ltb}
use lib.ListN.{length, get_or, take, drop, length-drop}
use lib.Seq.{get_or-take, get_or-drop}
use Rattle.wire.specs.Order.{◌if◌else◌}
use Rattle.wire.specs.First.{Unless, Zero}
use Rattle.wire.specs.Log.{judged}
use Rattle.wire.specs.Sum.{sum_of}
use Rattle.wire.specs.Text.{text_len}
use Rattle.wire.proofs.Firsts.{link, unless}
use Rattle.wire.proofs.Orders.{not-false}
use Rattle.wire.proofs.RefusalChains.{sound_test}
use Rattle.wire.proofs.Texts.{text_stops, text_plain}
use Rattle.mlg_rules.specs.Block.{counter_after, block_len, type_in, record_in, sum_in, last_of, rest_number, parts_of}
use Rattle.mlg_rules.specs.Block.{read_block_of, block_answer, block_result}
use Rattle.mlg_rules.specs.Numbers.{HasZero, DataNumber, MarkNumber, TypeNumber, BlockNumber}
use Rattle.mlg_rules.specs.declared.Block.{Block}
use Rattle.mlg_rules.specs.declared.Block.TheVariants.{End, Refused}
use Rattle.mlg_rules.proofs.BlockLaws.{at_past, at_within, block_end, block_here, len_none, judged_no, judged_yes, block_means}

-- the n bytes from a place on
module _ (s : List ℕ) (at n : ℕ) where
  byte : (i : ℕ) → i < n → get_or (take n (drop at s)) i 0 ≡ get_or s (at + i) 0
  byte i h = get_or-take n (drop at s) i 0 h ∙ get_or-drop at s i 0

  pub has_zero : text_len (take n (drop at s)) < n → HasZero s at n
  has_zero h = let t = take n (drop at s) in (text_len t, h, sym (byte (text_len t) h) ∙ text_stops t)

  pub no_zero : n ≤ text_len (take n (drop at s)) → ¬ (HasZero s at n)
  no_zero h z = text_plain (take n (drop at s)) z.0 (omega (arith, z.1)) (byte z.0 z.1 ∙ z.2)

-- a chain by the type of a block
abbrev chain : ℕ → ℕ → List ℕ → ℕ
chain k l t = 25 if eqb (block_len l k) 0 else 20 if ltb (length t) (block_len l k) else last_of k l t

data_chain : (k l : ℕ) (t : List ℕ) → k ≡ 0 → DataNumber l t (chain k l t)
unfolding ◌if◌else◌ block_len last_of
data_chain zero l t e =
    rw (ne_eqb (l + 5) 0 (λ z. omega arith))
    (link 20 (ltb (length t) (l + 5)) _ (Unless (sum_of (record_in l t) ≡ sum_in l t) 26 Zero)
    (ltb-true _ _) (λ f p. omega (arith, ltb-false (length t) (l + 5) f, p))
    (λ f. unless 26 _ 0 Zero (λ w. eqb-false _ _ ((sound_test _).0 w)) (λ w. eqb-true _ _ (not-false _ w)) (λ w. refl)))
data_chain (suc k) l t e = absurd (omega arith)

mark_chain : (k l : ℕ) (t : List ℕ) → k ≡ 1 → MarkNumber t (chain k l t)
unfolding ◌if◌else◌ block_len last_of
mark_chain zero l t e = absurd (omega arith)
mark_chain (suc zero) l t e =
    link 20 (ltb (length t) 54) _ (Unless (HasZero t 4 50) 28 Zero) (ltb-true _ _) (λ f p. omega (arith, ltb-false (length t) 54 f, p))
    (λ f. unless 28 _ 0 Zero (λ w. no_zero t 4 50 (leb-true _ _ w)) (λ w. has_zero t 4 50 (leb-false _ _ w)) (λ w. refl))
mark_chain (suc (suc k)) l t e = absurd (omega arith)

unknown_chain : (k l : ℕ) (t : List ℕ) → k ≢ 0 → k ≢ 1 → chain k l t ≡ 25
unfolding ◌if◌else◌
unknown_chain k l t p q = rw (len_none l k p q)

type_number_lem : (l : ℕ) (t : List ℕ) → TypeNumber l t (rest_number l t)
unfolding rest_number
type_number_lem l t =
    record {
      of_data = data_chain (type_in t) l t;
      of_mark = mark_chain (type_in t) l t;
      unknown = unknown_chain (type_in t) l t;
    }

-- the number of a block's answer
parts_number_lem : (k l c at : ℕ) (t : List ℕ) → (block_answer l (parts_of k c at t)).number ≡ 0
unfolding block_answer parts_of
parts_number_lem zero l c at t = refl
parts_number_lem (suc k) l c at t = refl

judged_number : (l n at : ℕ) (b : Block) → (block_answer l b).number ≡ 0 → (block_answer l (judged Refused n at b)).number ≡ n
unfolding judged block_answer
judged_number l zero at b e = e
judged_number l (suc n) at b e = refl

module _ (l n : ℕ) (f : List ℕ) (at : ℕ) where
  abbrev number : Block → ℕ
  number b = (block_answer l b).number

  within : at ≤ length f → (t : List ℕ) → drop at f ≡ t → BlockNumber l f at (number (read_block_of l n f at))
  unfolding block_answer
  within h [] e =
      let z : length (drop at f) ≡ 0 = ap length e in
      let b = at_within l n f at h ∙ block_end l (counter_after n) at (drop at f) z in
      inr (λ p. omega arith, inl (omega (arith, length-drop at f), ap number b))
  within h (x ∷ t) e =
      let some : length (drop at f) ≢ 0 = λ z. omega (arith, ap length e) in
      let b = at_within l n f at h ∙ block_here l (counter_after n) at (drop at f) some in
      let m = ap number b ∙ judged_number l _ at _ (parts_number_lem (type_in (drop at f)) l (counter_after n) at (drop at f)) in
      inr (λ p. omega arith, inr (λ p. omega (arith, length-drop at f, ap length e), rw m (type_number_lem l (drop at f))))

  by_place : (b : Bool) → ltb (length f) at ≡ b → BlockNumber l f at (number (read_block_of l n f at))
  unfolding block_answer
  by_place true e = inl (ltb-true _ _ e, ap number (at_past l n f at (ltb-true _ _ e)))
  by_place false e = within (ltb-false _ _ e) _ refl

  -- the number is 0 at the end, else that of the rest of the file from there on
  pub number_past : length f < at → number (read_block_of l n f at) ≡ 23
  unfolding block_answer
  number_past h = ap number (at_past l n f at h)

  pub number_end : at ≡ length f → number (read_block_of l n f at) ≡ 0
  unfolding block_answer
  number_end h = ap number (at_within l n f at (omega arith) ∙ block_end l (counter_after n) at (drop at f) (omega (arith, length-drop at f)))

  -- what stands before the end
  here : at < length f
      → read_block_of l n f at ≡ judged Refused (rest_number l (drop at f)) at (parts_of (type_in (drop at f)) (counter_after n) at (drop at f))
  here h = at_within l n f at (omega arith) ∙ block_here l (counter_after n) at (drop at f) (λ z. omega (arith, length-drop at f))

  pub number_rest : at < length f → number (read_block_of l n f at) ≡ rest_number l (drop at f)
  number_rest h = ap number (here h) ∙ judged_number l _ at _ (parts_number_lem (type_in (drop at f)) l (counter_after n) at (drop at f))

  -- a place whose number is 0 lies within the file, and nothing refuses the block that begins there
  pub good_within : number (read_block_of l n f at) ≡ 0 → at ≤ length f
  good_within e = by_past (ltb (length f) at) refl
    where
      by_past : (b : Bool) → ltb (length f) at ≡ b → at ≤ length f
      by_past true q = absurd (omega (arith, number_past (ltb-true _ _ q)))
      by_past false q = ltb-false _ _ q

  pub good_some : number (read_block_of l n f at) ≡ 0 → (length f ≡ at → ⊥) → at < length f
  good_some e k = let h = good_within e in omega (arith, h, λ (z : at ≡ length f). k (sym z))

  pub good_rest : at < length f → number (read_block_of l n f at) ≡ 0 → rest_number l (drop at f) ≡ 0
  good_rest h e = sym (number_rest h) ∙ e

  pub good_parts : at < length f → number (read_block_of l n f at) ≡ 0
      → parts_of (type_in (drop at f)) (counter_after n) at (drop at f) ≡ read_block_of l n f at
  good_parts h e = sym (here h ∙ judged_yes _ at _ (good_rest h e))

  pub good_end : at ≡ length f → End ≡ read_block_of l n f at
  good_end h = sym (at_within l n f at (omega arith) ∙ block_end l (counter_after n) at (drop at f) (omega (arith, length-drop at f)))

  -- any other number refuses it
  pub bad_there : (x : ℕ) → x ≡ number (read_block_of l n f at) → (x ≡ 0 → ⊥) → Refused x at ≡ read_block_of l n f at
  bad_there x e k = by_past (ltb (length f) at) refl
    where
      by_end : at ≤ length f → (b : Bool) → eqb at (length f) ≡ b → Refused x at ≡ read_block_of l n f at
      by_end h true q = absurd (k (e ∙ number_end (eqb-true _ _ q)))
      by_end h false q =
          let some : at < length f = let z = eqb-false _ _ q in omega arith in
          judged_no _ at _ x (e ∙ number_rest some) k ∙ sym (here some)

      by_past : (b : Bool) → ltb (length f) at ≡ b → Refused x at ≡ read_block_of l n f at
      by_past true q = ap (λ (m : ℕ). Refused m at) (e ∙ number_past (ltb-true _ _ q)) ∙ sym (at_past l n f at (ltb-true _ _ q))
      by_past false q = by_end (ltb-false _ _ q) _ refl

pub block_number : (l n : ℕ) (f : List ℕ) (at : ℕ) → BlockNumber l f at (block_answer l (read_block_of l n f at)).number
block_number l n f at = by_place l n f at _ refl

-- what a block's answer says, and which number it has
pub block_told : {r : Block} (l n : ℕ) (f : List ℕ) (at : ℕ) → r ≡ read_block_of l n f at
    → (r ≡ read_block_of l n f at) × (block_answer l r ≡ block_result l n f at) × BlockNumber l f at (block_answer l r).number
block_told l n f at e = let m = block_means l n f at e in (m.0, m.1, rw e (block_number l n f at))
