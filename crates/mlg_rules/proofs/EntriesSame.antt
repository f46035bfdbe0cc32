-- A log's blocks, rewritten from what was read.
use Prim.Native.Nat.{ℕ, zero, suc, ◌+◌, ◌-◌, ◌^◌, ◌≤◌, ◌<◌}
use mathlib.Core.Path.{◌≡◌, refl, sym, ap, ◌∙◌}
use mathlib.Core.List.{List, [], ◌++◌}
use native.Mathlib.Omega.{arith}
use borrow.Author.Tests.{eqb-true}
use lib.ListN.{length, get_or, take, drop, length-drop, take-append-drop, drop_of_length-le}
use lib.Seq.{length-take-le, drop-drop, take-take, get_or-drop}
use Rattle.wire.specs.Text.{text_len}
use Rattle.wire.proofs.Numbers.{bytes_drop}
use Rattle.wire.proofs.Parts.{take_length_le}
use Rattle.wire.proofs.Texts.{text_most}
use Rattle.mlg_rules.specs.Block.{counter_after, block_len, type_in, counter_in, time_in, text_in, rest_number, parts_of, read_block_of}
use Rattle.mlg_rules.specs.Writing.{data_bytes, padded_text, mark_bytes, write_mark_number}
use Rattle.mlg_rules.specs.Log.{Log, length_of, log_from}
use Rattle.mlg_rules.specs.Entries.{Entry, Writable, entries_bytes, entry_in, entries_in}
use Rattle.mlg_rules.specs.Entries.{AsExpected, Padded, AllAsExpected, AllPadded, rewritten, PaddedHere}
use Rattle.mlg_rules.specs.RoundTrip.{BlockSame}
use Rattle.mlg_rules.specs.declared.Block.{Block}
use Rattle.mlg_rules.specs.declared.Block.TheVariants.{End, Refused}
use Rattle.mlg_rules.proofs.NotRefused.{two_below, text_taken, text_length, data_accepted, mark_accepted}
use Rattle.mlg_rules.proofs.BlockLaws.{whole, data_whole, text_ends}
use Rattle.mlg_rules.proofs.LogLaws.{Next, Stands, a_block, the_end, refused, stands_at, step, parts_block, parts_length, log_end, log_refused, log_more}
use Rattle.mlg_rules.proofs.BlockSame.{block_same}

-- the first bytes of a part
text_part : (at : ℕ) (f : List ℕ) → let t = text_in (drop at f) in take (text_len t) t ≡ take (text_len t) (drop (at + 4) f)
text_part at f =
    let r = drop 4 (drop at f) in
    let n = text_len (take 50 r) in
    take-take n 50 r (omega (arith, text_most (take 50 r), take_length_le 50 r)) ∙ ap (take n) (drop-drop 4 at f)

-- what a block says, in bytes
entry_bytes_lem : (k l n at : ℕ) (f : List ℕ) (es : List Entry)
    → entries_bytes n (entry_in l f (parts_of k (counter_after n) at (drop at f)) ++ es)
    ≡ rewritten k l (counter_after n) (drop at f) ++ entries_bytes (n + 1) es
unfolding parts_of rewritten
entry_bytes_lem zero l n at f es =
    ap (λ (x : List ℕ). data_bytes (counter_after n) (time_in (drop at f)) (take l x) ++ entries_bytes (n + 1) es) (sym (drop-drop 4 at f))
entry_bytes_lem (suc k) l n at f es =
    ap (λ (x : List ℕ). mark_bytes (counter_after n) (time_in (drop at f)) x ++ entries_bytes (n + 1) es) (sym (text_part at f))

as_expected_here : (k c at : ℕ) (t : List ℕ) → AsExpected (parts_of k c at t) → counter_in t ≡ c
unfolding parts_of
as_expected_here zero c at t r = eqb-true _ _ r
as_expected_here (suc k) c at t r = eqb-true _ _ r

padded_here : (k c at : ℕ) (f : List ℕ) → Padded f (parts_of k c at (drop at f)) → PaddedHere k (drop at f)
unfolding parts_of PaddedHere
padded_here zero c at f p = tt
padded_here (suc k) c at f p = ap (take 50) (drop-drop 4 at f) ∙ p ∙ ap padded_text (sym (text_part at f))

bytes_from : (at : ℕ) (f : List ℕ) → ((i : ℕ) → get_or f i 0 < 256) → (i : ℕ) → get_or (drop at f) i 0 < 256
bytes_from at f b i = rw (get_or-drop at f i 0) (b (at + i))

module _ (l : ℕ) (f : List ℕ) (bytes : (i : ℕ) → get_or f i 0 < 256) where
  -- what a block says, a writer accepts
  record_length : (at : ℕ) → l + 5 ≤ length (drop at f) → length (take l (drop (at + 4) f)) ≡ l
  record_length at h = length-take-le l (drop (at + 4) f) (rw (length-drop (at + 4) f) (omega (arith, length-drop at f)))

  text_accepted : (at : ℕ) → text_len (text_in (drop at f)) < 50 → write_mark_number (take (text_len (text_in (drop at f))) (drop (at + 4) f)) 54 ≡ 0
  text_accepted at h =
      let t = text_in (drop at f) in
      rw (← text_part at f) (mark_accepted (take (text_len t) t) (omega (arith, text_length t)) (omega (arith, text_length t, text_taken t)))

  time_below : (at : ℕ) → time_in (drop at f) < 2 ^ 16
  time_below at = two_below (drop 2 (drop at f)) (bytes_drop 2 (drop at f) (bytes_from at f bytes))

  accepted : (k c at : ℕ) (es : List Entry) → type_in (drop at f) ≡ k → rest_number l (drop at f) ≡ 0
      → Writable l es → Writable l (entry_in l f (parts_of k c at (drop at f)) ++ es)
  unfolding parts_of
  accepted zero c at es e num ws = (data_accepted l _ (record_length at (data_whole l (drop at f) num e)), time_below at, ws)
  accepted (suc k) c at es e num ws =
      (text_accepted at (text_ends (type_in (drop at f)) l (drop at f) (λ z. omega arith) (whole l (drop at f) num).2), time_below at, ws)

  abbrev Same : Log → ℕ → ℕ → Type 0
  Same log n at = log.ending ≡ End → AllAsExpected log.blocks → AllPadded f log.blocks
      → Writable l (entries_in l f log.blocks) × (entries_bytes n (entries_in l f log.blocks) ≡ drop at f)

  same_end : (log : Log) (n at : ℕ) → log ≡ record { blocks = []; ending = End; place = at } → at ≡ length f → Same log n at
  same_end log n at e h = λ z r p. rw e (tt, sym (drop_of_length-le f {i = at} (omega arith)))

  same_refused : (log : Log) (n at m : ℕ) → log ≡ record { blocks = []; ending = Refused (suc m) at; place = at } → Same log n at
  same_refused log n at m e = λ z r p.
      let w : Refused (suc m) at ≡ End = sym (ap (λ (g : Log). g.ending) e) ∙ z in
      absurd (let v : ◌≡◌ {A = ℕ} 0 1 = cc in omega arith)

  -- one block
  module _ (n at : ℕ) (num : rest_number l (drop at f) ≡ 0) where
    abbrev b : Block
    b = parts_of (type_in (drop at f)) (counter_after n) at (drop at f)

    len : length_of l b ≡ block_len l (type_in (drop at f))
    len = parts_length (type_in (drop at f)) l (counter_after n) at (drop at f) (whole l (drop at f) num).0

    here : AsExpected b → Padded f b → rewritten (type_in (drop at f)) l (counter_after n) (drop at f) ≡ take (block_len l (type_in (drop at f))) (drop at f)
    unfolding BlockSame
    here r p =
        (block_same l (counter_after n) (drop at f) (bytes_from at f bytes) num).0
        (as_expected_here (type_in (drop at f)) (counter_after n) at (drop at f) r, padded_here (type_in (drop at f)) (counter_after n) at f p)

    same_more : (log next : Log) → Next log at b next → Same next (n + 1) (at + length_of l b) → Same log n at
    same_more log next g ih = λ z r p.
        let r' = rw g.0 at r in
        let p' = rw g.0 at p in
        let rest = ih (sym g.1 ∙ z) r'.1 p'.1 in (
          rw g.0 (accepted (type_in (drop at f)) (counter_after n) at (entries_in l f next.blocks) refl num rest.0),
          ap (λ (bs : List (ℕ × Block)). entries_bytes n (entries_in l f bs)) g.0
              ∙ entry_bytes_lem (type_in (drop at f)) l n at f (entries_in l f next.blocks)
              ∙ rw (rest.1, here r'.0 p'.0, len, ← drop-drop (block_len l (type_in (drop at f))) at f)
              (take-append-drop (block_len l (type_in (drop at f))) (drop at f)),
        )

  same_by : (k n at : ℕ) → Stands l n f at (read_block_of l n f at) → length f - at < suc k
      → ((m to : ℕ) → to ≤ length f → length f - to < k → Same (log_from k l m f to) m to) → Same (log_from (suc k) l n f at) n at
  same_by k n at (the_end h e) fuel ih = same_end _ n at (log_end k l n f at e) h
  same_by k n at (refused m e) fuel ih = same_refused _ n at m (log_refused k l n f at (suc m) at e)
  same_by k n at (a_block h some num e) fuel ih =
      let s = step l n f at h num in
      let w = len n at num in
      same_more n at num _ _ (log_more k l n f at (b n at num) e (parts_block (type_in (drop at f)) (counter_after n) at (drop at f)))
      (ih (n + 1) (at + length_of l (b n at num)) (omega arith) (omega arith))

  pub same_from : (k n at : ℕ) → at ≤ length f → length f - at < k → Same (log_from k l n f at) n at
  same_from zero n at h fuel = absurd (omega arith)
  same_from (suc k) n at h fuel = same_by k n at (stands_at l n f at) fuel (λ m to h' fuel'. same_from k m to h' fuel')
