-- What the writers promise together with the readers. Each statement is a type; the writers' contracts name it, and proofs/ proves it.
use Rattle.std.specs.Prelude.{ℕ, ◌+◌, ◌*◌, ◌^◌, ◌≤◌, ◌<◌, ◌≡◌, true, ◌⊎◌, List, [], ◌∷◌, ◌++◌, length, get_or, take, drop, Ok}
use Rattle.wire.specs.Text.{text_len}
use Rattle.wire.specs.Log.{part_of, Holds}
use Rattle.mlg_rules.specs.Header.{read_header_of}
use Rattle.mlg_rules.specs.Block.{counter_after, block_len, type_in, counter_in, rest_number, block_of, read_block_of}
use Rattle.mlg_rules.specs.Writing.{header_for, header_bytes, write_header_number, data_bytes, write_data_number, mark_bytes, write_mark_number}
use Rattle.mlg_rules.specs.Parts.{fields_span_of, field_span_of, names_span_of, info_span_of}
use Rattle.mlg_rules.specs.Log.{Log, length_of, log_of, count_blocks_of}
use Rattle.mlg_rules.specs.Entries.{Entry, entries_bytes, Writable, entries_in, AllAsExpected, AllPadded, rewritten, PaddedHere}
use Rattle.mlg_rules.specs.declared.Block.{Block}
use Rattle.mlg_rules.specs.declared.Header.{Header}
use Rattle.mlg_rules.specs.declared.Block.TheVariants.{Data, Mark, End, Refused}

-- A data block that was written reads back as given, wherever it stands and whatever follows.
unfoldable pub DataBack : Type 0
DataBack =
    (l n time : ℕ) (rec before rest : List ℕ) (room : ℕ) → write_data_number l rec room ≡ 0 → time < 2 ^ 16
    → (read_block_of l n (before ++ (data_bytes (counter_after n) time rec ++ rest)) (length before) ≡ Data (counter_after n) time (length before + 4) true)
    × (take l (drop (length before + 4) (before ++ (data_bytes (counter_after n) time rec ++ rest))) ≡ rec)

-- A mark that was written reads back as given.
unfoldable pub MarkBack : Type 0
MarkBack =
    (l n time : ℕ) (text before rest : List ℕ) (room : ℕ) → write_mark_number text room ≡ 0 → time < 2 ^ 16
    → (read_block_of l n (before ++ (mark_bytes (counter_after n) time text ++ rest)) (length before)
    ≡ Mark (counter_after n) time (length before + 4) (length text) true)
    × (take (length text) (drop (length before + 4) (before ++ (mark_bytes (counter_after n) time text ++ rest))) ≡ text)

-- A whole block does not depend on what follows it.
unfoldable pub BlockAlone : Type 0
BlockAlone = (l c at : ℕ) (t rest : List ℕ) → 0 < length t → block_len l (type_in t) ≤ length t → block_of l c at (t ++ rest) ≡ block_of l c at t

-- A log's blocks follow each other from the place at on. Each is what stands at its place, after as many blocks as stand before it in the
-- list, and takes bytes; the ending is what stands after the last.
abbrev pub AllAt : ℕ → ℕ → List ℕ → ℕ → List (ℕ × Block) → Block → ℕ → Type 0
AllAt l n f at [] ending place = (place ≡ at) × (read_block_of l n f at ≡ ending)
AllAt l n f at (b ∷ bs) ending place =
    (b.0 ≡ at)
    × (read_block_of l n f at ≡ b.1)
    × (0 < length_of l b.1)
    × AllAt l (n + 1) f (at + length_of l b.1) bs ending place

-- The ending is the end, at the file's length n, or a refusal, which names its place.
abbrev pub Ends : ℕ → Block → ℕ → Type 0
Ends n (Data c m s r) place = ⊥
Ends n (Mark c m s k r) place = ⊥
Ends n End place = place ≡ n
Ends n (Refused m p) place = p ≡ place

unfoldable pub LogPlaced : Type 0
LogPlaced =
    (l : ℕ) (f : List ℕ) (at : ℕ)
    → AllAt l 0 f at (log_of l f at).blocks (log_of l f at).ending (log_of l f at).place × Ends (length f) (log_of l f at).ending (log_of l f at).place

-- A block rewritten from what was read is the same bytes exactly when its counter is right and, if a mark, it is zero-padded.
unfoldable pub BlockSame : Type 0
BlockSame =
    (l c : ℕ) (t : List ℕ) → ((i : ℕ) → get_or t i 0 < 256) → rest_number l t ≡ 0
    → (((counter_in t ≡ c) × PaddedHere (type_in t) t) → rewritten (type_in t) l c t ≡ take (block_len l (type_in t)) t)
    × (rewritten (type_in t) l c t ≡ take (block_len l (type_in t)) t → (counter_in t ≡ c) × PaddedHere (type_in t) t)

-- Of a file whose header is accepted: all its fields lie back to back, so that field i stands at start + 89 * i, where the call for it alone
-- finds it too; that call refuses every other index.
unfoldable pub FieldsPlaced : Type 0
FieldsPlaced =
    (f : List ℕ) (h : Header) → read_header_of f ≡ Ok h
    → (fields_span_of f ≡ record { number = 0; start = 24; len = 89 * h.count })
    × ((i : ℕ) → i < h.count → field_span_of f i ≡ record { number = 0; start = (fields_span_of f).start + 89 * i; len = 89 })
    × ((i : ℕ) → h.count ≤ i → field_span_of f i ≡ record { number = 23; start = 0; len = 0 })

-- A header that was written reads back as given, whatever follows, by what the calls hand out: its numbers, and the bytes of all its fields, of
-- each field, of the names area and of info.
pub record HeaderReads (time : ℕ) (fields names info file : List ℕ) : Type 0 where
  pub numbers : read_header_of file ≡ Ok (header_for 2 time fields names info)
  pub same_fields : Holds file (fields_span_of file) fields
  pub each_field : (i : ℕ) → i < (header_for 2 time fields names info).count → Holds file (field_span_of file i) (take 89 (drop (89 * i) fields))
  pub same_names : Holds file (names_span_of file) names
  pub same_info : Holds file (info_span_of file) info

unfoldable pub HeaderBack : Type 0
HeaderBack =
    (time : ℕ) (fields names info rest : List ℕ) (room : ℕ) → time < 2 ^ 32 → write_header_number 2 time fields names info room ≡ 0
    → HeaderReads time fields names info (header_bytes 2 time fields names info ++ rest)

-- A log that was written reads back as given: its header, and each record and mark in turn, with right counters, to the end. (The log's blocks
-- are what the block reader hands out, one after the other: `LogPlaced`.)
unfoldable pub log_bytes : ℕ → List ℕ → List ℕ → List ℕ → List Entry → List ℕ
log_bytes time fields names info es = header_bytes 2 time fields names info ++ entries_bytes 0 es

pub record LogReads (time : ℕ) (fields names info : List ℕ) (es : List Entry) (file : List ℕ) (log : Log) : Type 0 where
  pub header : HeaderReads time fields names info file
  pub entries : entries_in (header_for 2 time fields names info).size file log.blocks ≡ es
  pub as_expected : AllAsExpected log.blocks
  pub ends : log.ending ≡ End
  pub counted : count_blocks_of file ≡ record { blocks = length es; ending = 0; place = length file }

unfoldable pub LogBack : Type 0
LogBack =
    (time : ℕ) (fields names info : List ℕ) (es : List Entry) (room : ℕ) → time < 2 ^ 32 → write_header_number 2 time fields names info room ≡ 0
    → Writable (header_for 2 time fields names info).size es
    → LogReads time fields names info es (log_bytes time fields names info es)
    (log_of (header_for 2 time fields names info).size (log_bytes time fields names info es) (header_for 2 time fields names info).begin)

-- "A file in this layout": info start is 0, or info is not empty and its zero is the last byte before data begin. (Fields and names area lie back
-- to back in every file that the reader accepts.)
unfoldable pub InLayout : List ℕ → Header → Type 0
InLayout f h = (h.info ≡ 0) ⊎ ((0 < text_len (drop h.info f)) × (h.info + text_len (drop h.info f) + 1 ≡ h.begin))

-- "A file in this layout, with right counters and zero-padded marks, rewritten from what was read gives the same bytes": no writer refuses what
-- the calls hand out, where it has the room that the file had, and what they write is the file.
unfoldable pub LogSame : Type 0
LogSame =
    (f : List ℕ) (h : Header) → ((i : ℕ) → get_or f i 0 < 256) → read_header_of f ≡ Ok h → InLayout f h
    → (log_of h.size f h.begin).ending ≡ End
    → AllAsExpected (log_of h.size f h.begin).blocks → AllPadded f (log_of h.size f h.begin).blocks
    → let fields = part_of f (fields_span_of f) in
    let names = part_of f (names_span_of f) in
    let info = part_of f (info_span_of f) in
    let es = entries_in h.size f (log_of h.size f h.begin).blocks in
    (write_header_number 2 h.time fields names info (length f) ≡ 0) × Writable h.size es × (log_bytes h.time fields names info es ≡ f)
