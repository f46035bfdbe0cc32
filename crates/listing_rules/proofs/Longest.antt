-- No listing is longer than five bytes for each byte of the longest file.
use Prim.Native.Nat.{ℕ, zero, suc, ◌+◌, ◌-◌, ◌*◌, ◌≤◌, ◌<◌}
use mathlib.Core.Path.{◌≡◌, refl, ap, ◌∙◌}
use mathlib.Core.Bool.{Bool, true, false}
use mathlib.Core.List.{List}
use native.Mathlib.Omega.{arith}
use borrow.Author.Tests.{ltb-true, ltb-false}
use lib.Dec.{ltb}
use lib.ListN.{length, drop, length-append}
use Rattle.wire.proofs.Numbers.{Bytes, bytes_drop}
use Rattle.mlg_rules.specs.Layout.{layout_of, header_len}
use Rattle.mlg_rules.specs.Header.{numbers_of, fields_from, no_header, read_header_of}
use Rattle.mlg_rules.specs.Block.{counter_after, type_in, read_block_of}
use Rattle.mlg_rules.specs.Log.{length_of, log_from, log_of}
use Rattle.mlg_rules.specs.declared.Header.{Header}
use Rattle.std.proofs.Common.{Result, Ok, Err}
use Rattle.wire.specs.Refusals.{code}
use Rattle.wire.specs.declared.refusal.Refusal.{Refusal}
use Rattle.mlg_rules.specs.declared.Block.{Block}
use Rattle.mlg_rules.proofs.LogLaws.{IsBlock, Stands, a_block, the_end, refused, stands_at, parts_block}
use Rattle.mlg_rules.proofs.TallyLaws.{at_fits}
use Rattle.listing_rules.specs.Lines.{block_line}
use Rattle.listing_rules.specs.Listing.{log_lines, headed_lines, head_lines, list_of, LongInput}
use Rattle.listing_rules.specs.Longest.{longest, NoneLonger}
use Rattle.listing_rules.proofs.FieldsInFile.{header_is, begin_in, begin_after}
use Rattle.listing_rules.proofs.BlockInFile.{block_in_file}
use Rattle.listing_rules.proofs.LogLines.{block_next, block_end, block_refused, block_none}
use Rattle.listing_rules.proofs.LongInput.{long_input}
use Rattle.listing_rules.proofs.RefusalNumbers.{header_number, block_number}
use Rattle.listing_rules.proofs.LineLengths.{two_bytes, header_line_length, field_lines_length, end_line_length, refusal_line_length, parts_line_length}

count_in : (f : List ℕ) → Bytes f → (numbers_of f).count < 65536
unfolding numbers_of layout_of
count_in f g = two_bytes f 22 g

size_in : (f : List ℕ) → Bytes f → (numbers_of f).size < 65536
unfolding numbers_of layout_of
size_in f g = two_bytes f 20 g

module _ (h : Header) (f : List ℕ) (e : read_header_of f ≡ Ok h) (g : Bytes f) (short : length f ≤ 65536) where
  -- the lines of a log from a place on, where k blocks may be left
  abbrev Within : ℕ → ℕ → ℕ → Type 0
  Within k n at = length (log_lines h f n (log_from k h.size n f at)) + 5 * at ≤ 5 * length f + 53

  block_then : (k n at : ℕ) (b : Block) → read_block_of h.size n f at ≡ b → IsBlock b
      → length (block_line h f n b) ≤ 5 * length_of h.size b → Within k (n + 1) (at + length_of h.size b) → Within (suc k) n at
  block_then k n at b q go line rest =
      let all = block_next h f (suc k) n at b (λ z. omega arith) q go in
      let m : suc k - 1 ≡ k = omega arith in
      let next = log_lines h f (n + 1) (log_from k h.size (n + 1) f (at + length_of h.size b)) in
      omega (arith, line, rest, ap length (rw m at all), length-append (block_line h f n b) next)

  log_by : (k n at : ℕ) (b : Block) → read_block_of h.size n f at ≡ b → Stands h.size n f at b → at ≤ length f → n + suc k ≤ 65537
      → ((to : ℕ) → to ≤ length f → Within k (n + 1) to) → Within (suc k) n at
  log_by k n at b q (a_block p some num r) i j next =
      let go : IsBlock b = rw r (parts_block (type_in (drop at f)) (counter_after n) at (drop at f)) in
      let within = block_in_file h f e n at b q in
      let line = parts_line_length h f n (omega arith) (type_in (drop at f)) (counter_after n) at g (rw r at within) in
      block_then k n at b q go (rw r line) (next (at + length_of h.size b) (at_fits h.size n f at b q go))
  log_by k n at b q (the_end p r) i j next =
      omega (arith, i, ap length (block_end h f k n at (q ∙ r)), end_line_length h f n (omega arith))
  log_by k n at b q (refused m r) i j next =
      let x = block_number h.size n f at (suc m) at (q ∙ r) in
      omega (arith, i, ap length (block_refused h f k n at (suc m) at (q ∙ r)), refusal_line_length h f n (omega arith) (suc m) at x (omega arith))

  log_length : (k n at : ℕ) → at ≤ length f → n + k ≤ 65537 → Within k n at
  log_length zero n at i j = omega (arith, i, ap length (block_none h f 0 n at refl), end_line_length h f n (omega arith))
  log_length (suc k) n at i j = log_by k n at _ refl (stands_at h.size n f at) i j (λ to l. log_length k (n + 1) to l (omega arith))

  count_small : h.count < 65536
  count_small = rw (← (header_is f h e).1) (count_in f g)

  size_small : h.size < 65536
  size_small = rw (← (header_is f h e).1) (size_in f g)

  headed_length : length (headed_lines h f) ≤ longest
  unfolding headed_lines log_of
  headed_length =
      let fields = field_lines_length h.version 0 h.count (fields_from f h) (omega (arith, count_small)) (bytes_drop (header_len h.version) f g) in
      let log = log_length (suc (length f)) 0 h.begin (begin_in f h e) (omega arith) in
      simp length-append (omega (arith, header_line_length h count_small size_small, fields, log, begin_after f h e, short))

module _ (f : List ℕ) (g : Bytes f) where
  by_head : length f ≤ 65536 → (r : Result Header Refusal) → read_header_of f ≡ r → length (head_lines f r) ≤ longest
  unfolding head_lines
  by_head s (Ok h) e = headed_length h f e g s
  by_head s (Err x) e = omega (arith, refusal_line_length no_header f 0 (omega arith) (code x) 0 (header_number f x e) (omega arith))

  by_length : (b : Bool) → ltb 65536 (length f) ≡ b → length (list_of f) ≤ longest
  unfolding LongInput
  by_length true e = rw ((long_input f).0 (ltb-true 65536 (length f) e)) (omega arith)
  by_length false e =
      let short = ltb-false 65536 (length f) e in
      rw ((long_input f).1 short) (by_head short (read_header_of f) refl)

pub none_longer : NoneLonger
unfolding NoneLonger
none_longer f g = by_length f g (ltb 65536 (length f)) refl
