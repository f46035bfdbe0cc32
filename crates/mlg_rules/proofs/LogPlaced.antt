-- A log's blocks follow each other, each at its place, to the ending.
use Prim.Native.Nat.{ℕ, zero, suc, ◌+◌, ◌-◌, ◌<◌}
use mathlib.Core.Path.{◌≡◌, refl}
use mathlib.Core.List.{List}
use native.Mathlib.Omega.{arith}
use lib.ListN.{length, drop}
use Rattle.mlg_rules.specs.Block.{counter_after, type_in, parts_of, read_block_of}
use Rattle.mlg_rules.specs.Log.{Log, length_of, log_from, log_of}
use Rattle.mlg_rules.specs.RoundTrip.{AllAt, Ends, LogPlaced}
use Rattle.mlg_rules.specs.declared.Block.{Block}
use Rattle.mlg_rules.proofs.BlockLaws.{whole}
use Rattle.mlg_rules.proofs.LogLaws.{Next, Stands, a_block, the_end, refused, stands_at, step, parts_block, parts_length, log_end, log_refused, log_more}

-- the blocks follow each other to the ending
abbrev Follow : ℕ → ℕ → List ℕ → ℕ → Log → Type 0
Follow l n f at log = AllAt l n f at log.blocks log.ending log.place × Ends (length f) log.ending log.place

follow_more : (l n : ℕ) (f : List ℕ) (at : ℕ) (b : Block) (log next : Log) → Next log at b next → read_block_of l n f at ≡ b → 0 < length_of l b
    → Follow l (n + 1) f (at + length_of l b) next → Follow l n f at log
follow_more l n f at b log next g e some r = rw (g.0, g.1, g.2) ((refl, e, some, r.0), r.1)

placed_by : (k l n : ℕ) (f : List ℕ) (at : ℕ) → Stands l n f at (read_block_of l n f at) → length f - at < suc k
    → ((m to : ℕ) → length f - to < k → Follow l m f to (log_from k l m f to)) → Follow l n f at (log_from (suc k) l n f at)
placed_by k l n f at (the_end h e) fuel ih = rw (log_end k l n f at e) ((refl, e), h)
placed_by k l n f at (refused m e) fuel ih = rw (log_refused k l n f at (suc m) at e) ((refl, e), refl)
placed_by k l n f at (a_block h some num e) fuel ih =
    let b : Block = parts_of (type_in (drop at f)) (counter_after n) at (drop at f) in
    let s = step l n f at h num in
    let len = parts_length (type_in (drop at f)) l (counter_after n) at (drop at f) (whole l (drop at f) num).0 in
    follow_more l n f at b _ _ (log_more k l n f at b e (parts_block (type_in (drop at f)) (counter_after n) at (drop at f))) e (omega arith)
    (ih (n + 1) (at + length_of l b) (omega arith))

placed_from : (k l n : ℕ) (f : List ℕ) (at : ℕ) → length f - at < k → Follow l n f at (log_from k l n f at)
placed_from zero l n f at fuel = absurd (omega arith)
placed_from (suc k) l n f at fuel = placed_by k l n f at (stands_at l n f at) fuel (λ m to fuel'. placed_from k l m f to fuel')

pub log_placed : LogPlaced
unfolding LogPlaced log_of
log_placed l f at = placed_from (suc (length f)) l 0 f at (omega arith)
