-- A log that was written reads back as given.
use Prim.Native.Nat.{ℕ, zero, suc, ◌+◌, ◌<◌}
use mathlib.Core.Path.{◌≡◌, refl, sym, ap, ◌∙◌}
use mathlib.Core.Bool.{true}
use mathlib.Core.List.{List, [], ◌∷◌, ◌++◌, append_assoc, append-nil}
use native.Mathlib.Omega.{arith}
use lib.ListN.{length, drop, length-append}
use lib.Seq.{drop_at}
use Rattle.mlg_rules.specs.Header.{read_header_of}
use Rattle.mlg_rules.specs.Block.{counter_after, block_len, read_block_of, block_answer}
use Rattle.mlg_rules.specs.Writing.{header_for, header_bytes, data_bytes, mark_bytes}
use Rattle.mlg_rules.specs.Log.{Log, length_of, log_from, log_of, tally_of, tally_head, count_blocks_of}
use Rattle.mlg_rules.specs.Entries.{Entry, a_record, a_mark, entries_bytes, entry_in, entries_in, Writable, AllAsExpected}
use Rattle.mlg_rules.specs.RoundTrip.{DataBack, MarkBack, HeaderBack, LogBack, log_bytes}
use Rattle.mlg_rules.specs.declared.Block.{Block}
use Rattle.mlg_rules.specs.declared.Header.{Header}
use Rattle.std.specs.Prelude.{Ok}
use Rattle.mlg_rules.specs.declared.Block.TheVariants.{Data, Mark, End}
use Rattle.mlg_rules.proofs.BlockBack.{data_back, mark_back}
use Rattle.mlg_rules.proofs.BlockBytes.{data_fits, data_length, mark_fits, mark_length}
use Rattle.mlg_rules.proofs.BlockLaws.{at_within, block_end}
use Rattle.mlg_rules.proofs.HeaderBack.{header_back}
use Rattle.mlg_rules.proofs.HeaderBytes.{header_length}
use Rattle.mlg_rules.proofs.LogLaws.{IsBlock, Next, log_end, log_more}

-- the blocks of a log say the entries
record Reads (l : ℕ) (es : List Entry) (f : List ℕ) (log : Log) : Type 0 where
  entries : entries_in l f log.blocks ≡ es
  as_expected : AllAsExpected log.blocks
  ends : log.ending ≡ End
  many : length log.blocks ≡ length es
  place : log.place ≡ length f

same_reads : (k l n : ℕ) (es : List Entry) (f g : List ℕ) (at to : ℕ) → f ≡ g → at ≡ to
    → Reads l es f (log_from k l n f at) → Reads l es g (log_from k l n g to)
same_reads k l n es f g at to p q r = rw (← p, ← q) r

-- where nothing is left
none_left : (k l n : ℕ) (before : List ℕ) → Reads l [] (before ++ []) (log_from (suc k) l n (before ++ []) (length before))
none_left k l n before =
    let nothing = ap length (drop_at before [] (length before) refl) in
    let e =
    at_within l n (before ++ []) (length before) (omega (arith, length-append before []))
    ∙ block_end l (counter_after n) (length before) (drop (length before) (before ++ [])) nothing in
    let s = log_end k l n (before ++ []) (length before) e in
    record {
      entries = ap (λ (g : Log). entries_in l (before ++ []) g.blocks) s;
      as_expected = rw s tt;
      ends = ap (λ (g : Log). g.ending) s;
      many = ap (λ (g : Log). length g.blocks) s;
      place = ap (λ (g : Log). g.place) s ∙ ap length (sym (append-nil before));
    }

-- a block that says an entry, with the expected counter
abbrev Says : ℕ → List ℕ → Block → Entry → Type 0
Says l f b e = (entry_in l f b ≡ e ∷ []) × AllAsExpected ((0, b) ∷ [])

one_more : (l : ℕ) (f : List ℕ) (log : Log) (at : ℕ) (b : Block) (next : Log) (e : Entry) (es : List Entry)
    → Next log at b next → Says l f b e → Reads l es f next → Reads l (e ∷ es) f log
one_more l f log at b next e es g w r =
    record {
      entries = ap (entries_in l f) g.0 ∙ rw (w.0, r.entries);
      as_expected = rw g.0 (w.1.0, r.as_expected);
      ends = g.1 ∙ r.ends;
      many = ap length g.0 ∙ ap suc r.many;
      place = g.2 ∙ r.place;
    }

-- the file after a block is the file that begins with it
block_first : (l k n : ℕ) (before block tail : List ℕ) (b : Block) (e : Entry) (es : List Entry)
    → read_block_of l n (before ++ (block ++ tail)) (length before) ≡ b
    → IsBlock b → Says l (before ++ (block ++ tail)) b e → length_of l b ≡ length block
    → Reads l es ((before ++ block) ++ tail) (log_from k l (n + 1) ((before ++ block) ++ tail) (length (before ++ block)))
    → Reads l (e ∷ es) (before ++ (block ++ tail)) (log_from (suc k) l n (before ++ (block ++ tail)) (length before))
block_first l k n before block tail b e es at g w len r =
    let file = before ++ (block ++ tail) in
    let next = length before + length_of l b in
    let q : length (before ++ block) ≡ next = rw len (length-append before block) in
    let r' = same_reads k l (n + 1) es ((before ++ block) ++ tail) file (length (before ++ block)) next (append_assoc before block tail) q r in
    one_more l file _ (length before) b (log_from k l (n + 1) file next) e es (log_more k l n file (length before) b at g) w r'

data_len : (l c m s : ℕ) (rec : List ℕ) → length rec ≡ l → length_of l (Data c m s true) ≡ length rec + 5
unfolding length_of block_len
data_len l c m s rec e = rw e

mark_len : (l c m s k : ℕ) → length_of l (Mark c m s k true) ≡ 54
unfolding length_of block_len
mark_len l c m s k = refl

reads : (l : ℕ) (es : List Entry) (n k : ℕ) (before : List ℕ) → Writable l es → length (entries_bytes n es) < k
    → Reads l es (before ++ entries_bytes n es) (log_from k l n (before ++ entries_bytes n es) (length before))
unfolding DataBack MarkBack
reads l [] n zero before ws fuel = absurd (omega arith)
reads l [] n (suc k) before ws fuel = none_left k l n before
reads l (a_record m rec ∷ es) n zero before ws fuel = absurd (omega arith)
reads l (a_record m rec ∷ es) n (suc k) before ws fuel =
    let f = data_fits l rec (l + 5) ws.0 in
    let d = data_back l n m rec before (entries_bytes (n + 1) es) (l + 5) ws.0 ws.1 in
    let c = counter_after n in
    let rest = entries_bytes (n + 1) es in
    let len = data_length c m rec in
    block_first l k n before (data_bytes c m rec) rest (Data c m (length before + 4) true) (a_record m rec) es d.0 tt
    (ap (λ (x : List ℕ). a_record m x ∷ []) d.1, (refl, tt)) (data_len l c m (length before + 4) rec f.0 ∙ len)
    (reads l es (n + 1) k (before ++ data_bytes c m rec) ws.2 (omega (arith, length-append (data_bytes c m rec) rest)))
reads l (a_mark m t ∷ es) n zero before ws fuel = absurd (omega arith)
reads l (a_mark m t ∷ es) n (suc k) before ws fuel =
    let f = mark_fits t 54 ws.0 in
    let d = mark_back l n m t before (entries_bytes (n + 1) es) 54 ws.0 ws.1 in
    let c = counter_after n in
    let rest = entries_bytes (n + 1) es in
    let len = mark_length c m t (omega arith) in
    block_first l k n before (mark_bytes c m t) rest (Mark c m (length before + 4) (length t) true) (a_mark m t) es d.0 tt
    (ap (λ (x : List ℕ). a_mark m x ∷ []) d.1, (refl, tt)) (mark_len l c m (length before + 4) (length t) ∙ len)
    (reads l es (n + 1) k (before ++ mark_bytes c m t) ws.2 (omega (arith, length-append (mark_bytes c m t) rest)))

begin_is : (time : ℕ) (fields names info : List ℕ) → length (header_bytes 2 time fields names info) ≡ (header_for 2 time fields names info).begin
unfolding header_for
begin_is time fields names info = header_length 2 time fields names info

-- what is counted
count_log : (f : List ℕ) (h : Header) (es : List Entry) → read_header_of f ≡ Ok h → Reads h.size es f (log_of h.size f h.begin)
    → count_blocks_of f ≡ record { blocks = length es; ending = 0; place = length f }
unfolding count_blocks_of tally_head tally_of block_answer
count_log f h es e r = rw (e, r.many, r.ends, r.place)

pub log_back : LogBack
unfolding LogBack HeaderBack log_bytes log_of
log_back time fields names info es room t z ws =
    let h = header_bytes 2 time fields names info in
    let l = (header_for 2 time fields names info).size in
    let r = reads l es 0 (suc (length (h ++ entries_bytes 0 es))) h ws (omega (arith, length-append h (entries_bytes 0 es))) in
    let q = rw (begin_is time fields names info) at r in
    let header = header_back time fields names info (entries_bytes 0 es) room t z in
    record {
      header = header;
      entries = q.entries;
      as_expected = q.as_expected;
      ends = q.ends;
      counted = count_log (h ++ entries_bytes 0 es) _ es header.numbers q;
    }
