-- Laws by which the blocks of a file are counted one by one.
use Prim.Native.Nat.{ℕ, suc, ◌+◌}
use mathlib.Core.Path.{◌≡◌, refl, sym, ap, ◌∙◌}
use mathlib.Core.List.{List}
use mathlib.Core.Logic.{◌⊎◌, inl, inr}
use native.Mathlib.Omega.{arith}
use native.Mathlib.Nat.{zero-add}
use lib.ListN.{length}
use Rattle.std.proofs.Common.{Bool, Ok, Err}
use Rattle.wire.specs.declared.views.Tally.{Tally}
use Rattle.wire.specs.Refusals.{code}
use Rattle.wire.specs.declared.refusal.Refusal.{Refusal}
use Rattle.frd_rules.specs.Header.{read_header_of}
use Rattle.frd_rules.specs.Block.{block_len, read_block_of, block_answer, length_of}
use Rattle.frd_rules.specs.Log.{Log, more, log_from, log_of, tally_of, tally_head, count_blocks_of}
use Rattle.frd_rules.specs.declared.Header.{Header}
use Rattle.frd_rules.specs.declared.Block.{Block}
use Rattle.frd_rules.specs.declared.Block.TheVariants.{Data, Time, End, Refused}
use Rattle.frd_rules.proofs.LogLaws.{IsBlock, block_fits, log_more, log_ends, log_enough}

-- what is neither data nor a time is no block, and takes no bytes
pub no_block : (b : Block) → ((c s : ℕ) (r : Bool) → b ≡ Data c s r → ⊥) → ((c m : ℕ) (r : Bool) → b ≡ Time c m r → ⊥) → IsBlock b → ⊥
no_block (Data c s r) h k g = h c s r refl
no_block (Time c m r) h k g = k c m r refl
no_block End h k g = g
no_block (Refused n p) h k g = g

pub some_block : (b : Block) → ((c : ℕ) × (s : ℕ) × (r : Bool) × (b ≡ Data c s r)) ⊎ ((c : ℕ) × (m : ℕ) × (r : Bool) × (b ≡ Time c m r)) → IsBlock b
some_block b (inl h) = rw h.3 tt
some_block b (inr h) = rw h.3 tt

-- a block that is no time has a data block's length
pub data_length : (l : ℕ) (b : Block) → IsBlock b → ((c m : ℕ) (r : Bool) → b ≡ Time c m r → ⊥) → block_len l 1 ≡ length_of l b
unfolding length_of
data_length l (Data c s r) g k = refl
data_length l (Time c m r) g k = absurd (k c m r refl)
data_length l End g k = absurd g
data_length l (Refused n p) g k = absurd g

pub nothing : (l : ℕ) (b : Block) → (IsBlock b → ⊥) → 0 ≡ length_of l b
unfolding length_of
nothing l (Data c s r) g = absurd (g tt)
nothing l (Time c m r) g = absurd (g tt)
nothing l End g = refl
nothing l (Refused n p) g = refl

-- the tally of the blocks from a place on, after n blocks
abbrev tally_after : ℕ → Log → Tally
tally_after n g = record { blocks = n + length g.blocks; ending = g.ending; place = g.place }

abbrev pub tally_from : (l n : ℕ) → List ℕ → ℕ → Tally
tally_from l n f at = tally_after n (log_from (suc (length f)) l n f at)

pub tally_start : (l : ℕ) (f : List ℕ) (at : ℕ) → tally_from l 0 f at ≡ tally_of (log_of l f at)
unfolding log_of
tally_start l f at = rw (zero-add (length (log_of l f at).blocks))

pub tally_more : (l n : ℕ) (f : List ℕ) (at : ℕ) (b : Block) → read_block_of l n f at ≡ b → IsBlock b
    → tally_from l n f at ≡ tally_from l (n + 1) f (at + length_of l b)
tally_more l n f at b e g =
    let h = block_fits l n f at b e g in
    let to = at + length_of l b in
    let q = log_enough (length f) (suc (length f)) l (n + 1) f to h.1 (omega (arith, h.0)) (omega (arith, h.0)) in
    ap (tally_after n) (log_more (length f) l n f at b e g ∙ ap (more at b) q) ∙ one (log_from (suc (length f)) l (n + 1) f to)
  where
    one : (r : Log) → tally_after n (more at b r) ≡ tally_after (n + 1) r
    one r = let q : n + suc (length r.blocks) ≡ n + 1 + length r.blocks = omega arith in rw q

pub tally_ends : (l n : ℕ) (f : List ℕ) (at : ℕ) (b : Block) → read_block_of l n f at ≡ b → (IsBlock b → ⊥)
    → record { blocks = n; ending = (block_answer b).number; place = at } ≡ tally_from l n f at
tally_ends l n f at b e k =
    let q : n + 0 ≡ n = omega arith in
    sym (ap (tally_after n) (log_ends (length f) l n f at b e k) ∙ rw q)

-- by the header
pub count_is : (f : List ℕ) (h : Header) → read_header_of f ≡ Ok h → tally_of (log_of h.size f h.begin) ≡ count_blocks_of f
unfolding count_blocks_of tally_head
count_is f h e = rw e

pub count_none : (f : List ℕ) (e : Refusal) → Err e ≡ read_header_of f → record { blocks = 0; ending = code e; place = 0 } ≡ count_blocks_of f
unfolding count_blocks_of tally_head
count_none f e h = rw (← h)
