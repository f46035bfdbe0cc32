-- Blocks counted one by one.
use Prim.Native.Nat.{ℕ, zero, suc, ◌+◌, ◌-◌, ◌≤◌, ◌<◌}
use mathlib.Core.Path.{◌≡◌, refl, sym, ap, ◌∙◌}
use mathlib.Core.List.{List, []}
use mathlib.Core.Logic.{◌⊎◌, inl, inr}
use mathlib.Core.Bool.{Bool}
use native.Mathlib.Omega.{arith}
use lib.ListN.{length}
use Rattle.mlg_rules.specs.Header.{read_header_of}
use Rattle.mlg_rules.specs.Block.{counter_after, block_len, type_in, read_block_of, block_answer}
use Rattle.mlg_rules.specs.Log.{Log, length_of, log_from, log_of, tally_of, tally_head, count_blocks_of}
use Rattle.mlg_rules.specs.declared.Block.{Block}
use Rattle.wire.specs.declared.refusal.Refusal.{Refusal}
use Rattle.mlg_rules.specs.declared.Header.{Header}
use Rattle.wire.specs.Refusals.{code}
use Rattle.std.specs.Prelude.{Ok, Err}
use Rattle.wire.specs.declared.views.Tally.{Tally}
use Rattle.mlg_rules.specs.declared.Block.TheVariants.{Data, Mark, End, Refused}
use Rattle.mlg_rules.proofs.BlockLaws.{whole}
use Rattle.mlg_rules.proofs.LogLaws.{IsBlock, Next, Stands, a_block, the_end, refused, stands_at, step, parts_length, log_end, log_refused, log_more}

-- the tally of a log after n blocks
abbrev pub from : ℕ → ℕ → Log → Tally
from l n log = record { blocks = n + length log.blocks; ending = (block_answer l log.ending).number; place = log.place }

from_next : (l n : ℕ) (log next : Log) (at : ℕ) (b : Block) → Next log at b next → from l n log ≡ from l (n + 1) next
from_next l n log next at b g =
    let e : n + length log.blocks ≡ n + 1 + length next.blocks = omega (arith, ap length g.0) in
    rw (e, g.1, g.2)

tally_next : (k l n : ℕ) (f : List ℕ) (at : ℕ) (b : Block) → (k ≡ 0 → ⊥) → read_block_of l n f at ≡ b → IsBlock b
    → from l n (log_from k l n f at) ≡ from l (n + 1) (log_from (k - 1) l (n + 1) f (at + length_of l b))
tally_next zero l n f at b h e g = absurd (h refl)
tally_next (suc k) l n f at b h e g =
    let q : suc k - 1 ≡ k = omega arith in
    rw q (from_next l n _ _ at b (log_more k l n f at b e g))

stop_tally : (l n at : ℕ) (b : Block) (log : Log) → log ≡ record { blocks = []; ending = b; place = at }
    → from l n log ≡ record { blocks = n; ending = (block_answer l b).number; place = at }
stop_tally l n at b log e = let z : n + 0 ≡ n = omega arith in rw (e, z)

tally_stop : (k l n : ℕ) (f : List ℕ) (at : ℕ) (b : Block) → (k ≡ 0 → ⊥) → read_block_of l n f at ≡ b → (IsBlock b → ⊥)
    → from l n (log_from k l n f at) ≡ record { blocks = n; ending = (block_answer l b).number; place = at }
tally_stop zero l n f at b h e g = absurd (h refl)
tally_stop (suc k) l n f at (Data c m s r) h e g = absurd (g tt)
tally_stop (suc k) l n f at (Mark c m s j r) h e g = absurd (g tt)
tally_stop (suc k) l n f at End h e g = stop_tally l n at End _ (log_end k l n f at e)
tally_stop (suc k) l n f at (Refused m p) h e g = stop_tally l n at (Refused m p) _ (log_refused k l n f at m p e)

tally_all : (k l : ℕ) (f : List ℕ) (at : ℕ) → k ≡ length f + 1 → from l 0 (log_from k l 0 f at) ≡ tally_of l (log_of l f at)
unfolding tally_of log_of
tally_all k l f at e =
    let q : k ≡ suc (length f) = omega arith in
    let z : 0 + length (log_from (suc (length f)) l 0 f at).blocks ≡ length (log_from (suc (length f)) l 0 f at).blocks = omega arith in
    rw (q, z)

-- the tally of the blocks from a place on, after n blocks
abbrev pub tally_from : (l n : ℕ) → List ℕ → ℕ → Tally
tally_from l n f at = from l n (log_from (suc (length f) - n) l n f at)

pub tally_start : (l : ℕ) (f : List ℕ) (at : ℕ) → tally_from l 0 f at ≡ tally_of l (log_of l f at)
tally_start l f at = tally_all _ l f at (omega arith)

pub tally_more : (l n : ℕ) (f : List ℕ) (at : ℕ) (b : Block) → n ≤ length f → read_block_of l n f at ≡ b → IsBlock b
    → tally_from l n f at ≡ tally_from l (n + 1) f (at + length_of l b)
tally_more l n f at b h e g =
    let q : suc (length f) - n - 1 ≡ suc (length f) - (n + 1) = omega arith in
    tally_next _ l n f at b (λ z. omega arith) e g
    ∙ ap (λ (k : ℕ). from l (n + 1) (log_from k l (n + 1) f (at + length_of l b))) q

pub tally_ends : (l n : ℕ) (f : List ℕ) (at : ℕ) (b : Block) → n ≤ length f → read_block_of l n f at ≡ b → (IsBlock b → ⊥)
    → record { blocks = n; ending = (block_answer l b).number; place = at } ≡ tally_from l n f at
tally_ends l n f at b h e g = sym (tally_stop _ l n f at b (λ z. omega arith) e g)

-- a block that is passed over lies within the file
fits_by : (l n : ℕ) (f : List ℕ) (at : ℕ) (b : Block) → Stands l n f at b → IsBlock b → at + length_of l b ≤ length f
fits_by l n f at b (a_block h some num e) g =
    rw (e, parts_length (type_in _) l (counter_after n) at _ (whole l _ num).0) (step l n f at h num).1
fits_by l n f at b (the_end h e) g = absurd (rw e at g)
fits_by l n f at b (refused m e) g = absurd (rw e at g)

pub at_fits : (l n : ℕ) (f : List ℕ) (at : ℕ) (b : Block) → read_block_of l n f at ≡ b → IsBlock b → at + length_of l b ≤ length f
at_fits l n f at b e g = fits_by l n f at b (rw e at (stands_at l n f at)) g

-- a header that is refused
pub count_none : (f : List ℕ) (r : Refusal) → read_header_of f ≡ Err r
    → ◌≡◌ {A = Tally} (record { blocks = 0; ending = code r; place = 0 }) (count_blocks_of f)
unfolding count_blocks_of tally_head
count_none f r e = rw e

pub count_is : (f : List ℕ) (h : Header) → read_header_of f ≡ Ok h → tally_of h.size (log_of h.size f h.begin) ≡ count_blocks_of f
unfolding count_blocks_of tally_head
count_is f h e = rw e

-- what is neither data nor a mark is no block, and takes no bytes
pub no_block : (b : Block) → ((c m s : ℕ) (r : Bool) → b ≡ Data c m s r → ⊥) → ((c m s k : ℕ) (r : Bool) → b ≡ Mark c m s k r → ⊥) → IsBlock b → ⊥
no_block (Data c m s r) h j g = h c m s r refl
no_block (Mark c m s k r) h j g = j c m s k r refl
no_block End h j g = g
no_block (Refused n p) h j g = g

pub nothing : (l : ℕ) (b : Block) → (IsBlock b → ⊥) → 0 ≡ length_of l b
unfolding length_of
nothing l (Data c m s r) g = absurd (g tt)
nothing l (Mark c m s k r) g = absurd (g tt)
nothing l End g = refl
nothing l (Refused n p) g = refl

pub some_block : (b : Block)
    → ((c : ℕ) × (m : ℕ) × (s : ℕ) × (r : Bool) × (b ≡ Data c m s r))
    ⊎ ((c : ℕ) × (m : ℕ) × (s : ℕ) × (k : ℕ) × (r : Bool) × (b ≡ Mark c m s k r))
    → IsBlock b
some_block b (inl h) = rw h.4 tt
some_block b (inr h) = rw h.5 tt

-- a block that is no mark has a data block's length
pub data_length : (l : ℕ) (b : Block) → IsBlock b → ((c m s k : ℕ) (r : Bool) → b ≡ Mark c m s k r → ⊥) → l + 5 ≡ length_of l b
unfolding length_of block_len
data_length l (Data c m s r) g k = refl
data_length l (Mark c m s j r) g k = absurd (k c m s j r refl)
data_length l End g k = absurd g
data_length l (Refused n p) g k = absurd g

-- a block takes bytes
pub block_takes : (l : ℕ) (b : Block) → IsBlock b → 0 < length_of l b
unfolding length_of block_len
block_takes l (Data c m s r) g = omega arith
block_takes l (Mark c m s i r) g = omega arith
block_takes l End g = absurd g
block_takes l (Refused n p) g = absurd g
