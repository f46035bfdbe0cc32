-- The lines of a log, block by block.
use Prim.Native.Nat.{ℕ, zero, suc, ◌+◌, ◌-◌, ◌≤◌}
use mathlib.Core.Path.{◌≡◌, refl}
use mathlib.Core.List.{List, [], ◌++◌, append_assoc}
use native.Mathlib.Omega.{arith}
use lib.ListN.{length}
use Rattle.mlg_rules.specs.Block.{read_block_of}
use Rattle.mlg_rules.specs.Log.{Log, length_of, log_from, log_of}
use Rattle.mlg_rules.specs.declared.Header.{Header}
use Rattle.mlg_rules.specs.declared.Block.{Block}
use Rattle.mlg_rules.specs.declared.Block.TheVariants.{Data, Mark, End, Refused}
use Rattle.mlg_rules.proofs.LogLaws.{IsBlock, Next, log_end, log_refused, log_more}
use Rattle.listing_rules.specs.Lines.{block_line}
use Rattle.listing_rules.specs.Listing.{log_lines}

module _ (h : Header) (f : List ℕ) where
  lines_next : (n : ℕ) (log next : Log) (at : ℕ) (b : Block) → Next log at b next → log_lines h f n log ≡ block_line h f n b ++ log_lines h f (n + 1) next
  unfolding log_lines
  lines_next n log next at b g =
      let e : n + suc (length next.blocks) ≡ n + 1 + length next.blocks = omega arith in
      rw (g.0, g.1, e, append_assoc)

  lines_stop : (n at : ℕ) (b : Block) (log : Log) → log ≡ record { blocks = []; ending = b; place = at } → log_lines h f n log ≡ block_line h f n b
  unfolding log_lines
  lines_stop n at b log e = let z : n + 0 ≡ n = omega arith in rw (e, z)

  pub block_next : (k n at : ℕ) (b : Block) → (k ≡ 0 → ⊥) → read_block_of h.size n f at ≡ b → IsBlock b
      → log_lines h f n (log_from k h.size n f at)
      ≡ block_line h f n b ++ log_lines h f (n + 1) (log_from (k - 1) h.size (n + 1) f (at + length_of h.size b))
  block_next zero n at b z e g = absurd (z refl)
  block_next (suc k) n at b z e g =
      let q : suc k - 1 ≡ k = omega arith in
      rw q (lines_next n _ _ at b (log_more k h.size n f at b e g))

  pub block_end : (k n at : ℕ) → read_block_of h.size n f at ≡ End → log_lines h f n (log_from (suc k) h.size n f at) ≡ block_line h f n End
  block_end k n at e = lines_stop n at End _ (log_end k h.size n f at e)

  pub block_refused : (k n at m p : ℕ) → read_block_of h.size n f at ≡ Refused m p
      → log_lines h f n (log_from (suc k) h.size n f at) ≡ block_line h f n (Refused m p)
  block_refused k n at m p e = lines_stop n at (Refused m p) _ (log_refused k h.size n f at m p e)

  pub block_last : (k n at : ℕ) (b : Block) → (k ≡ 0 → ⊥) → read_block_of h.size n f at ≡ b → (IsBlock b → ⊥)
      → log_lines h f n (log_from k h.size n f at) ≡ block_line h f n b
  block_last zero n at b z e g = absurd (z refl)
  block_last (suc k) n at (Data c m s r) z e g = absurd (g tt)
  block_last (suc k) n at (Mark c m s j r) z e g = absurd (g tt)
  block_last (suc k) n at End z e g = block_end k n at e
  block_last (suc k) n at (Refused m p) z e g = block_refused k n at m p e

  -- the same of a log of which n blocks are read, where no more blocks than bytes are
  pub more_lines : (n at : ℕ) (b : Block) → n ≤ length f → read_block_of h.size n f at ≡ b → IsBlock b
      → log_lines h f n (log_from (length f + 1 - n) h.size n f at)
      ≡ block_line h f n b ++ log_lines h f (n + 1) (log_from (length f + 1 - (n + 1)) h.size (n + 1) f (at + length_of h.size b))
  more_lines n at b w e g =
      let q : length f + 1 - (n + 1) ≡ length f + 1 - n - 1 = omega arith in
      rw q (block_next (length f + 1 - n) n at b (λ z. omega arith) e g)

  pub last_lines : (n at : ℕ) (b : Block) → n ≤ length f → read_block_of h.size n f at ≡ b → (IsBlock b → ⊥)
      → log_lines h f n (log_from (length f + 1 - n) h.size n f at) ≡ block_line h f n b
  last_lines n at b w e g = block_last (length f + 1 - n) n at b (λ z. omega arith) e g

  pub block_none : (k n at : ℕ) → k ≡ 0 → log_lines h f n (log_from k h.size n f at) ≡ block_line h f n End
  block_none k n at e = rw e (lines_stop n at End (log_from 0 h.size n f at) refl)

  pub log_all : log_lines h f 0 (log_from (length f + 1 - 0) h.size 0 f h.begin) ≡ log_lines h f 0 (log_of h.size f h.begin)
  unfolding log_of
  log_all = let q : length f + 1 - 0 ≡ suc (length f) = omega arith in rw q
