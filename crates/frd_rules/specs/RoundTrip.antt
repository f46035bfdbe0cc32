-- What the writers write, the readers read back as given; and a file that was read, written again, is the same bytes. Below, l is the output
-- length, n the number of earlier blocks, f a file, at a place in it, es what a log's writer is given, and g a log.
use Rattle.std.specs.Prelude.{ℕ, ◌+◌, ◌<◌, ◌≤◌, ◌^◌, ◌≡◌, true, List, [], ◌∷◌, ◌++◌, length, get_or, take, drop, Ok}
use Rattle.wire.specs.Log.{judged, part_of, Holds}
use Rattle.frd_rules.specs.Header.{header_len, signature_len, version, read_header_of, read_signature_of}
use Rattle.frd_rules.specs.Block.{counter_after, block_len, type_in, record_place, block_of, read_block_of, length_of}
use Rattle.frd_rules.specs.Log.{Placed, Log, log_of, count_blocks_of}
use Rattle.frd_rules.specs.Writing.{header_bytes, write_header_number, data_bytes, write_data_number, time_bytes, write_time_number}
use Rattle.frd_rules.specs.declared.Header.{Header}
use Rattle.frd_rules.specs.declared.Block.{Block}
use Rattle.frd_rules.specs.declared.Block.TheVariants.{Data, Time, End, Refused}

-- ── What is written reads back ──────────────────────────────────────────────────────────────────────────────────────

-- the numbers of the header that is written
abbrev pub header_for : (time l : ℕ) → Header
header_for time l = record { version = version; time = time; begin = header_len; size = l }

-- a header: it is written where it has room, and read back whatever bytes follow
unfoldable pub HeaderBack : ℕ → List ℕ → ℕ → Type 0
HeaderBack time signature l =
    length signature ≡ signature_len
    → ((room : ℕ) → length (header_bytes time signature l) ≤ room → write_header_number time signature l room ≡ 0)
    × ((rest : List ℕ)
    → let f = header_bytes time signature l ++ rest in
    (read_header_of f ≡ Ok (header_for time l)) × Holds f (read_signature_of f) signature)

-- a data block with the counter c of n earlier blocks, likewise, whatever bytes stand before it and follow: its counter is as expected, and its
-- bytes are where it says
unfoldable pub DataBack : ℕ → ℕ → List ℕ → Type 0
DataBack l n rec =
    let c = counter_after n in
    length rec ≡ l
    → ((room : ℕ) → length (data_bytes c rec) ≤ room → write_data_number l c rec room ≡ 0)
    × ((before rest : List ℕ)
    → (read_block_of l n (before ++ (data_bytes c rec ++ rest)) (length before) ≡ Data c (record_place (length before)) true)
    × (take l (drop (record_place (length before)) (before ++ (data_bytes c rec ++ rest))) ≡ rec))

-- a time block
unfoldable pub TimeBack : (n time : ℕ) → Type 0
TimeBack n time =
    let c = counter_after n in
    ((room : ℕ) → length (time_bytes c time) ≤ room → write_time_number c time room ≡ 0)
    × ((l : ℕ) (before rest : List ℕ) → read_block_of l n (before ++ (time_bytes c time ++ rest)) (length before) ≡ Time c time true)

-- a whole block does not depend on what follows it
unfoldable pub BlockAlone : Type 0
BlockAlone =
    (l c at : ℕ) (t rest : List ℕ) → 0 < length t → block_len l (type_in t) ≤ length t
    → block_of l c at (t ++ rest) ≡ block_of l c at t

-- ── What a log is written from, and what is read of it ──────────────────────────────────────────────────────────────

-- what a log's writer is given for each block
pub data Entry : Type 0 where
  a_record : List ℕ → Entry
  a_time : ℕ → Entry

-- records are of the output length, and times have 32 bits
unfoldable pub Writable : ℕ → List Entry → Type 0
Writable l [] = Unit
Writable l (a_record rec ∷ es) = (length rec ≡ l) × Writable l es
Writable l (a_time time ∷ es) = (time < 2 ^ 32) × Writable l es

-- the blocks' bytes, after n blocks: each is counted
unfoldable pub entries_bytes : ℕ → List Entry → List ℕ
entries_bytes n [] = []
entries_bytes n (a_record rec ∷ es) = data_bytes (counter_after n) rec ++ entries_bytes (n + 1) es
entries_bytes n (a_time time ∷ es) = time_bytes (counter_after n) time ++ entries_bytes (n + 1) es

-- a log's bytes
unfoldable pub log_bytes : ℕ → List ℕ → ℕ → List Entry → List ℕ
log_bytes time signature l es = header_bytes time signature l ++ entries_bytes 0 es

-- what blocks of a file say
abbrev pub entry_in : ℕ → List ℕ → Block → List Entry
entry_in l f (Data c s e) = a_record (take l (drop s f)) ∷ []
entry_in l f (Time c m e) = a_time m ∷ []
entry_in l f End = []
entry_in l f (Refused m p) = []

unfoldable pub entries_in : ℕ → List ℕ → List Placed → List Entry
entries_in l f [] = []
entries_in l f (p ∷ ps) = entry_in l f p.block ++ entries_in l f ps

-- every counter is as expected
abbrev pub AsExpected : Block → Type 0
AsExpected (Data c s e) = e ≡ true
AsExpected (Time c m e) = e ≡ true
AsExpected End = Unit
AsExpected (Refused m p) = Unit

unfoldable pub AllAsExpected : List Placed → Type 0
AllAsExpected [] = Unit
AllAsExpected (p ∷ ps) = AsExpected p.block × AllAsExpected ps

-- ── A whole log ─────────────────────────────────────────────────────────────────────────────────────────────────────

-- reading what was written gives what was given, to the file's end, with the expected counters
pub record LogReads (time : ℕ) (signature : List ℕ) (l : ℕ) (es : List Entry) (f : List ℕ) (g : Log) : Type 0 where
  pub header : read_header_of f ≡ Ok (header_for time l)
  pub same_signature : Holds f (read_signature_of f) signature
  pub entries : entries_in l f g.blocks ≡ es
  pub as_expected : AllAsExpected g.blocks
  pub ending : g.ending ≡ 0
  pub place : g.place ≡ length f
  pub counted : count_blocks_of f ≡ record { blocks = length es; ending = 0; place = length f }

unfoldable pub LogBack : Type 0
LogBack =
    (time : ℕ) (signature : List ℕ) (l : ℕ) (es : List Entry)
    → time < 2 ^ 32 → length signature ≡ signature_len → l < 2 ^ 16 → Writable l es
    → LogReads time signature l es (log_bytes time signature l es) (log_of l (log_bytes time signature l es) (header_for time l).begin)

-- where the block after these begins, the first of them beginning at a place
unfoldable pub place_after : ℕ → ℕ → List Placed → ℕ
place_after l at [] = at
place_after l at (p ∷ ps) = place_after l (at + length_of l p.block) ps

-- a log of the file f from a place on: each block begins where those before it end, and is what stands there after that many blocks; after the
-- last of them stands the end, or what the number of the ending refuses
pub record InPlace (l begin : ℕ) (f : List ℕ) (g : Log) : Type 0 where
  pub each : (before : List Placed) (p : Placed) (after : List Placed) → g.blocks ≡ before ++ (p ∷ after)
      → (p.place ≡ place_after l begin before) × (read_block_of l (length before) f p.place ≡ p.block)
  pub last : (g.place ≡ place_after l begin g.blocks)
      × (read_block_of l (length g.blocks) f g.place ≡ judged Refused g.ending g.place End)

-- the log of a file with this header, from data begin on
abbrev pub log_in : Header → List ℕ → Log
log_in h f = log_of h.size f h.begin

unfoldable pub LogPlaced : List ℕ → Type 0
LogPlaced f = (h : Header) → read_header_of f ≡ Ok h → InPlace h.size h.begin f (log_in h f)

-- a file in this layout: bytes that are a header and blocks back to back, to the file's end
pub record InLayout (f : List ℕ) (h : Header) : Type 0 where
  pub bytes : (i : ℕ) → get_or f i 0 < 256
  pub header : read_header_of f ≡ Ok h
  pub blocks : (log_in h f).ending ≡ 0

-- with the expected counters, what was read of it is writable, and written gives the same bytes
unfoldable pub LogSame : Type 0
LogSame =
    (f : List ℕ) (h : Header) → InLayout f h → AllAsExpected (log_in h f).blocks
    → let signature = part_of f (read_signature_of f) in
    let es = entries_in h.size f (log_in h f).blocks in
    (length signature ≡ signature_len) × Writable h.size es × (log_bytes h.time signature h.size es ≡ f)
