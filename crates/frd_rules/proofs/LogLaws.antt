-- Laws of a log, block by block.
use Prim.Native.Nat.{ℕ, zero, suc, ◌+◌, ◌≤◌, ◌<◌}
use mathlib.Core.Path.{◌≡◌, refl, sym, ap, ◌∙◌, subst}
use mathlib.Core.List.{List}
use mathlib.Core.Logic.{◌⊎◌, inl, inr, ⊎_elim}
use native.Mathlib.Omega.{arith}
use lib.ListN.{length, drop}
use Rattle.frd_rules.specs.Block.{read_block_of, block_answer, length_of}
use Rattle.frd_rules.specs.Log.{ended, more, followed_by, log_from, log_of}
use Rattle.frd_rules.specs.declared.Block.{Block}
use Rattle.frd_rules.specs.declared.Block.TheVariants.{Data, Time, End, Refused}
use Rattle.frd_rules.proofs.BlockLaws.{View, at_end_lem, of_data_lem, of_time, of_refusal, view, data_len, time_len}

-- data and times are blocks; the end and a refusal are not
abbrev pub IsBlock : Block → Type 0
IsBlock (Data c s e) = Unit
IsBlock (Time c m e) = Unit
IsBlock End = ⊥
IsBlock (Refused m p) = ⊥

pub block_or_not : (b : Block) → IsBlock b ⊎ (IsBlock b → ⊥)
block_or_not (Data c s e) = inl tt
block_or_not (Time c m e) = inl tt
block_or_not End = inr (λ g. g)
block_or_not (Refused m p) = inr (λ g. g)

-- a block has two bytes at least, and lies within the file
module _ (l n : ℕ) (f : List ℕ) (at : ℕ) where
  abbrev Fits : Block → Type 0
  Fits b = (2 ≤ length_of l b) × (at + length_of l b ≤ length f)

  fits_by : View l n f at (drop at f) → IsBlock (read_block_of l n f at) → Fits (read_block_of l n f at)
  unfolding length_of
  fits_by (at_end_lem h e) g = absurd (subst IsBlock e g)
  fits_by (of_data_lem k h e) g = rw e (omega (arith, data_len l 1 refl), omega (arith, data_len l 1 refl))
  fits_by (of_time k h e) g = rw e (omega (arith, time_len l 2 refl), omega (arith, time_len l 2 refl))
  fits_by (of_refusal m h e) g = absurd (subst IsBlock e g)

  pub block_fits : (b : Block) → read_block_of l n f at ≡ b → IsBlock b → (2 ≤ length_of l b) × (at + length_of l b ≤ length f)
  block_fits b e g = subst Fits e (fits_by (view l n f at) (subst IsBlock (sym e) g))

-- a block is followed by the rest of the log
pub log_more : (k l n : ℕ) (f : List ℕ) (at : ℕ) (b : Block) → read_block_of l n f at ≡ b → IsBlock b
    → log_from (suc k) l n f at ≡ more at b (log_from k l (n + 1) f (at + length_of l b))
unfolding log_from followed_by
log_more k l n f at (Data c s r) e g = rw e
log_more k l n f at (Time c m r) e g = rw e
log_more k l n f at End e g = absurd g
log_more k l n f at (Refused m p) e g = absurd g

-- anything else ends it
pub log_ends : (k l n : ℕ) (f : List ℕ) (at : ℕ) (b : Block) → read_block_of l n f at ≡ b → (IsBlock b → ⊥)
    → log_from (suc k) l n f at ≡ ended (block_answer b).number at
unfolding block_answer log_from followed_by
log_ends k l n f at (Data c s r) e g = absurd (g tt)
log_ends k l n f at (Time c m r) e g = absurd (g tt)
log_ends k l n f at End e g = rw e
log_ends k l n f at (Refused m p) e g = rw e

-- more fuel than bytes changes nothing
pub log_enough : (k m l n : ℕ) (f : List ℕ) (at : ℕ) → at ≤ length f → length f < at + k → length f < at + m
    → log_from k l n f at ≡ log_from m l n f at
log_enough zero m l n f at w h i = absurd (omega arith)
log_enough (suc k) zero l n f at w h i = absurd (omega arith)
log_enough (suc k) (suc m) l n f at w h i =
    let b = read_block_of l n f at in
    ⊎_elim
    (λ g.
    let y = block_fits l n f at b refl g in
    log_more k l n f at b refl g
    ∙ ap (more at b) (log_enough k m l (n + 1) f (at + length_of l b) y.1 (omega (arith, y.0)) (omega (arith, y.0)))
    ∙ sym (log_more m l n f at b refl g))
    (λ g. log_ends k l n f at b refl g ∙ sym (log_ends m l n f at b refl g))
    (block_or_not b)

-- all blocks
pub log_all : (l : ℕ) (f : List ℕ) (at : ℕ) → log_of l f at ≡ log_from (suc (length f)) l 0 f at
unfolding log_of
log_all l f at = refl
