-- A log, block by block.
use Prim.Native.Nat.{ℕ, zero, suc, ◌+◌, ◌≤◌, ◌<◌}
use mathlib.Core.Path.{◌≡◌, refl, sym, ap, ◌∙◌}
use mathlib.Core.Bool.{Bool, true, false}
use mathlib.Core.List.{List, [], ◌∷◌}
use native.Mathlib.Omega.{arith}
use borrow.Author.Tests.{ltb-true, ltb-false}
use lib.Dec.{ltb}
use lib.ListN.{length, drop, length-drop}
use Rattle.mlg_rules.specs.Block.{counter_after, block_len, type_in, rest_number, parts_of, read_block_of}
use Rattle.mlg_rules.specs.Log.{Log, length_of, followed_by, log_from}
use Rattle.mlg_rules.specs.declared.Block.{Block}
use Rattle.mlg_rules.specs.declared.Block.TheVariants.{Data, Mark, End, Refused}
use Rattle.mlg_rules.proofs.BlockLaws.{at_past, at_within, block_end, block_here, judged_no, judged_yes, whole}

-- data and marks are passed over
abbrev pub IsBlock : Block → Type 0
IsBlock (Data c m s r) = Unit
IsBlock (Mark c m s k r) = Unit
IsBlock End = ⊥
IsBlock (Refused n p) = ⊥

pub parts_block : (k c at : ℕ) (t : List ℕ) → IsBlock (parts_of k c at t)
unfolding parts_of
parts_block zero c at t = tt
parts_block (suc k) c at t = tt

-- a block takes its type's length
pub parts_length : (k l c at : ℕ) (t : List ℕ) → (block_len l k ≡ 0 → ⊥) → length_of l (parts_of k c at t) ≡ block_len l k
unfolding parts_of length_of block_len
parts_length zero l c at t h = refl
parts_length (suc zero) l c at t h = refl
parts_length (suc (suc k)) l c at t h = absurd (h refl)

-- what can stand at a place: a whole block, or what ends the log
pub data Stands (l n : ℕ) (f : List ℕ) (at : ℕ) (b : Block) : Type 0 where
  a_block : at ≤ length f → (length (drop at f) ≡ 0 → ⊥) → rest_number l (drop at f) ≡ 0
      → b ≡ parts_of (type_in (drop at f)) (counter_after n) at (drop at f) → Stands l n f at b
  the_end : at ≡ length f → b ≡ End → Stands l n f at b
  refused : (m : ℕ) → b ≡ Refused (suc m) at → Stands l n f at b

module _ (l n : ℕ) (f : List ℕ) (at : ℕ) where
  here : at ≤ length f → (length (drop at f) ≡ 0 → ⊥) → (x : ℕ) → rest_number l (drop at f) ≡ x → Stands l n f at (read_block_of l n f at)
  here h k zero e = a_block h k e (at_within l n f at h ∙ block_here l (counter_after n) at (drop at f) k ∙ judged_yes _ at _ e)
  here h k (suc m) e =
      refused m (at_within l n f at h ∙ block_here l (counter_after n) at (drop at f) k ∙ sym (judged_no _ at _ (suc m) (sym e) (λ z. omega arith)))

  within : at ≤ length f → (t : List ℕ) → drop at f ≡ t → Stands l n f at (read_block_of l n f at)
  within h [] e =
      let z : length (drop at f) ≡ 0 = ap length e in
      the_end (omega (arith, length-drop at f)) (at_within l n f at h ∙ block_end l (counter_after n) at (drop at f) z)
  within h (b ∷ t) e = here h (λ (z : length (drop at f) ≡ 0). omega (arith, ap length e)) _ refl

  by_place : (b : Bool) → ltb (length f) at ≡ b → Stands l n f at (read_block_of l n f at)
  by_place true e = refused 22 (at_past l n f at (ltb-true _ _ e))
  by_place false e = within (ltb-false _ _ e) _ refl

  pub stands_at : Stands l n f at (read_block_of l n f at)
  stands_at = by_place _ refl

-- a block that goes on has its length within the file
pub step : (l n : ℕ) (f : List ℕ) (at : ℕ) → at ≤ length f → rest_number l (drop at f) ≡ 0
    → (0 < block_len l (type_in (drop at f))) × (at + block_len l (type_in (drop at f)) ≤ length f)
step l n f at h z =
    let w = whole l (drop at f) z in
    (positive _ w.0, omega (arith, w.1, length-drop at f, positive _ w.0))
  where
    positive : (x : ℕ) → (x ≡ 0 → ⊥) → 0 < x
    positive zero k = absurd (k refl)
    positive (suc x) k = omega arith

-- one block on
pub followed : (at : ℕ) (b : Block) (next : Log) → IsBlock b
    → ((followed_by at b next).blocks ≡ (at, b) ∷ next.blocks) × ((followed_by at b next).ending ≡ next.ending) × ((followed_by at b next).place ≡ next.place)
unfolding followed_by
followed at (Data c m s r) next g = (refl, refl, refl)
followed at (Mark c m s k r) next g = (refl, refl, refl)
followed at End next g = absurd g
followed at (Refused n p) next g = absurd g

pub followed_end : (at : ℕ) (next : Log) → followed_by at End next ≡ record { blocks = []; ending = End; place = at }
unfolding followed_by
followed_end at next = refl

pub followed_refused : (at m p : ℕ) (next : Log) → followed_by at (Refused m p) next ≡ record { blocks = []; ending = Refused m p; place = at }
unfolding followed_by
followed_refused at m p next = refl

-- a log at a place where a block, or the end, stands
pub log_end : (k l n : ℕ) (f : List ℕ) (at : ℕ) → read_block_of l n f at ≡ End → log_from (suc k) l n f at ≡ record { blocks = []; ending = End; place = at }
log_end k l n f at e = rw e (followed_end at (log_from k l (n + 1) f (at + length_of l End)))

pub log_refused : (k l n : ℕ) (f : List ℕ) (at m p : ℕ) → read_block_of l n f at ≡ Refused m p
    → log_from (suc k) l n f at ≡ record { blocks = []; ending = Refused m p; place = at }
log_refused k l n f at m p e = rw e (followed_refused at m p (log_from k l (n + 1) f (at + length_of l (Refused m p))))

abbrev pub Next : Log → ℕ → Block → Log → Type 0
Next log at b next = (log.blocks ≡ (at, b) ∷ next.blocks) × (log.ending ≡ next.ending) × (log.place ≡ next.place)

pub log_more : (k l n : ℕ) (f : List ℕ) (at : ℕ) (b : Block) → read_block_of l n f at ≡ b → IsBlock b
    → Next (log_from (suc k) l n f at) at b (log_from k l (n + 1) f (at + length_of l b))
log_more k l n f at b e g = rw e (followed at b (log_from k l (n + 1) f (at + length_of l b)) g)
