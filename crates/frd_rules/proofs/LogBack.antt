-- A whole log: reading what was written gives what was given.
use Prim.Native.Nat.{ℕ, zero, suc, ◌+◌, ◌<◌}
use mathlib.Core.Path.{◌≡◌, refl, sym, ap, ◌∙◌, subst}
use mathlib.Core.Bool.{true}
use mathlib.Core.List.{List, [], ◌∷◌, ◌++◌, append_assoc}
use native.Mathlib.Omega.{arith}
use lib.ListN.{length, length-append}
use Rattle.std.proofs.Common.{Ok}
use Rattle.frd_rules.specs.Header.{header_len, read_header_of}
use Rattle.frd_rules.specs.Block.{counter_after, record_place, read_block_of, block_answer, length_of}
use Rattle.frd_rules.specs.Log.{Log, log_from, log_of, tally_head, count_blocks_of}
use Rattle.frd_rules.specs.Writing.{header_bytes, data_bytes, time_bytes}
use Rattle.frd_rules.specs.RoundTrip.{header_for, HeaderBack, DataBack, TimeBack, LogBack}
use Rattle.frd_rules.specs.RoundTrip.{Entry, a_record, a_time, Writable, entries_bytes, log_bytes, entry_in, entries_in, AsExpected, AllAsExpected}
use Rattle.frd_rules.specs.declared.Header.{Header}
use Rattle.frd_rules.specs.declared.Block.{Block}
use Rattle.frd_rules.specs.declared.Block.TheVariants.{Data, Time}
use Rattle.frd_rules.proofs.BlockLaws.{data_len, time_len, at_end_of}
use Rattle.frd_rules.proofs.LogLaws.{IsBlock, log_more, log_ends, log_all}
use Rattle.frd_rules.proofs.WritingLaws.{data_length, time_length, header_length}
use Rattle.frd_rules.proofs.HeaderBack.{header_back}
use Rattle.frd_rules.proofs.BlockBack.{data_back, time_back}

-- an entry's bytes after n blocks, and its block
abbrev entry_bytes : ℕ → Entry → List ℕ
entry_bytes n (a_record rec) = data_bytes (counter_after n) rec
entry_bytes n (a_time time) = time_bytes (counter_after n) time

abbrev block_for : (n at : ℕ) → Entry → Block
block_for n at (a_record rec) = Data (counter_after n) (record_place at) true
block_for n at (a_time time) = Time (counter_after n) time true

module _ (l n : ℕ) where
  entry_is_block : (at : ℕ) (e : Entry) → IsBlock (block_for n at e)
  entry_is_block at (a_record rec) = tt
  entry_is_block at (a_time time) = tt

  entry_expected : (at : ℕ) (e : Entry) → AsExpected (block_for n at e)
  entry_expected at (a_record rec) = refl
  entry_expected at (a_time time) = refl

  entry_length : (at : ℕ) (e : Entry) (es : List Entry) → Writable l (e ∷ es) → length (entry_bytes n e) ≡ length_of l (block_for n at e)
  unfolding Writable length_of
  entry_length at (a_record rec) es h = data_length (counter_after n) rec ∙ omega (arith, data_len l 1 refl, h.0)
  entry_length at (a_time time) es h = time_length (counter_after n) time ∙ sym (time_len l 2 refl)

  -- it reads back
  entry_block : (before : List ℕ) (e : Entry) (es : List Entry) (rest : List ℕ) → Writable l (e ∷ es)
      → read_block_of l n (before ++ (entry_bytes n e ++ rest)) (length before) ≡ block_for n (length before) e
  unfolding Writable DataBack TimeBack
  entry_block before (a_record rec) es rest h = ((data_back l n rec h.0).1 before rest).0
  entry_block before (a_time time) es rest h = (time_back n time h.0).1 l before rest

  entry_back : (before : List ℕ) (e : Entry) (es : List Entry) (rest : List ℕ) → Writable l (e ∷ es)
      → entry_in l (before ++ (entry_bytes n e ++ rest)) (block_for n (length before) e) ≡ e ∷ []
  unfolding Writable DataBack
  entry_back before (a_record rec) es rest h = ap (λ (r : List ℕ). a_record r ∷ []) ((data_back l n rec h.0).1 before rest).1
  entry_back before (a_time time) es rest h = refl

entry_some : (n : ℕ) (e : Entry) → 0 < length (entry_bytes n e)
entry_some n (a_record rec) = omega (arith, data_length (counter_after n) rec)
entry_some n (a_time time) = omega (arith, time_length (counter_after n) time)

writable_rest : (l : ℕ) (e : Entry) (es : List Entry) → Writable l (e ∷ es) → Writable l es
unfolding Writable
writable_rest l (a_record rec) es h = h.1
writable_rest l (a_time time) es h = h.1

-- what a log that was read to the file's end says
record Whole (l : ℕ) (f : List ℕ) (es : List Entry) (g : Log) : Type 0 where
  entries : entries_in l f g.blocks ≡ es
  as_expected : AllAsExpected g.blocks
  ending : g.ending ≡ 0
  place : g.place ≡ length f
  many : length g.blocks ≡ length es

module _ (l : ℕ) (f : List ℕ) where
  -- what follows these bytes reads back, with this fuel, after n blocks
  abbrev RestBack : (k n : ℕ) → List Entry → List ℕ → Type 0
  RestBack k n es rest = (before : List ℕ) → before ++ rest ≡ f → Writable l es → length rest < k → Whole l f es (log_from k l n f (length before))

  -- one entry more
  entry_more : (k n : ℕ) (e : Entry) (es : List Entry) (rest : List ℕ) → RestBack k (n + 1) es rest
      → RestBack (suc k) n (e ∷ es) (entry_bytes n e ++ rest)
  unfolding entries_in AllAsExpected
  entry_more k n e es rest next before q h i =
      let at = length before in
      let b = block_for n at e in
      let g = log_from k l (n + 1) f (at + length_of l b) in
      let stands : read_block_of l n f at ≡ b = subst (λ (x : List ℕ). read_block_of l n x at ≡ b) q (entry_block l n before e es rest h) in
      let back : entry_in l f b ≡ e ∷ [] = subst (λ (x : List ℕ). entry_in l x b ≡ e ∷ []) q (entry_back l n before e es rest h) in
      let to : length (before ++ entry_bytes n e) ≡ at + length_of l b = omega (arith, length-append before (entry_bytes n e), entry_length l n at e es h) in
      let less : length rest < k = omega (arith, length-append (entry_bytes n e) rest, entry_some n e) in
      let r : Whole l f es g =
      rw to at (next (before ++ entry_bytes n e) (append_assoc before (entry_bytes n e) rest ∙ q) (writable_rest l e es h) less) in
      subst (Whole l f (e ∷ es)) (sym (log_more k l n f at b stands (entry_is_block l n at e)))
      (record {
        entries = ap (λ (x : List Entry). x ++ entries_in l f g.blocks) back ∙ ap (λ (x : List Entry). e ∷ x) r.entries;
        as_expected = (entry_expected l n at e, r.as_expected);
        ending = r.ending;
        place = r.place;
        many = ap suc r.many;
      })

  -- what was written, with fuel for each of its bytes
  entries_back : (es : List Entry) (k n : ℕ) → RestBack k n es (entries_bytes n es)
  unfolding block_answer entries_bytes entries_in AllAsExpected
  entries_back es zero n before q h i = absurd (omega arith)
  entries_back [] (suc k) n before q h i =
      let z : length before ≡ length f = omega (arith, length-append before [], ap length q) in
      rw (log_ends k l n f (length before) _ (at_end_of l n f (length before) z) (λ g. g))
      (record { entries = refl; as_expected = tt; ending = refl; place = z; many = refl })
  entries_back (a_record rec ∷ es) (suc k) n before q h i = entry_more k n (a_record rec) es _ (entries_back es k (n + 1)) before q h i
  entries_back (a_time time ∷ es) (suc k) n before q h i = entry_more k n (a_time time) es _ (entries_back es k (n + 1)) before q h i

-- what is counted
count_log : (f : List ℕ) (h : Header) (es : List Entry) → read_header_of f ≡ Ok h → Whole h.size f es (log_of h.size f h.begin)
    → count_blocks_of f ≡ record { blocks = length es; ending = 0; place = length f }
unfolding count_blocks_of tally_head
count_log f h es e y = rw (e, y.many, y.ending, y.place)

pub log_back : LogBack
unfolding log_bytes LogBack HeaderBack
log_back time signature l es t s z h =
    let head = header_bytes time signature l in
    let f = head ++ entries_bytes 0 es in
    let r = (header_back time signature l t z s).1 (entries_bytes 0 es) in
    let n = header_length time signature l s in
    let w = entries_back l f es (suc (length f)) 0 head refl h (omega (arith, length-append head (entries_bytes 0 es))) in
    let y = subst (Whole l f es) (sym (log_all l f header_len)) (rw n at w) in
    record {
      header = r.0;
      same_signature = r.1;
      entries = y.entries;
      as_expected = y.as_expected;
      ending = y.ending;
      place = y.place;
      counted = count_log f (header_for time l) es r.0 y;
    }
