-- DEMAND 2 of the table holder: a served write sets exactly the addressed bytes; a served request answers exactly the asked
-- bytes. 02, C-11: "Demand 2 then speaks of both memories." C-13: "Demand 2 reads per family; what the two share is proved once over the family":
-- CommandServed, RequestServed and BurnServed speak of the device that the frame acts on (`acting`), all else of the device before. And which number is
-- given exactly when, and C-16's mark. Of a call on the device e and the frame f that answers s and leaves the device after.
use Rattle.std.specs.Prelude.{ℕ, ◌+◌, ◌≤◌, ◌<◌, ◌^◌, ◌/◌, ◌%◌, ◌≡◌, ◌⊎◌, ◌↔◌, ◌≢◌, List, [], ◌∷◌, length, get_or, Ok}
use Rattle.std.proofs.lemmas.List.Edits.{sets}
use Rattle.wire.specs.First.{First, Unless, Zero}
use Rattle.bus_rules.specs.Ident.{id_spare, id_to, id_from, id_kind, id_offset, unpack_of}
use Rattle.bus_rules.specs.Frames.{Frame, cmd, req, rsp, burn, xtnd, content}
use Rattle.bus_rules.specs.Request.{Request}
use Rattle.bus_rules.specs.Rows.{cleared}
use Rattle.bus_rules.specs.Device.{Directory, HolderState, FirstState, Device, device, SameTables, none_current, currently, own_of, size_of, right_of}
use Rattle.bus_rules.specs.Device.{start_of, total_of}
use Rattle.bus_rules.specs.Holder.{Served, byte_of, request_at, table_of, size_at, right_at, place_of, no_answer, acting, serve_of, device_after}

-- ── What a served frame does, on either family ─────────────────────────────────────────────────────────────────────

-- CMD: exactly the addressed bytes are set, all of them bytes of the addressed table, and no other byte of any table
pub record CommandServed (e : Device) (f : Frame) (s : Served) (after : Device) : Type 0 where
  pub answer : s ≡ no_answer 0
  pub in_table : id_offset f.id + f.len ≤ size_at e f
  pub in_memory : place_of e f + f.len ≤ length e.memory
  pub same_tables : SameTables e after
  pub same_length : length after.memory ≡ length e.memory
  pub addressed : (i : ℕ) → i < f.len → get_or after.memory (place_of e f + i) 0 ≡ byte_of f i
  pub others : (j : ℕ) → (j < place_of e f) ⊎ (place_of e f + f.len ≤ j) → get_or after.memory j 0 ≡ get_or e.memory j 0
  pub other_tables : (k i : ℕ) → k < 32 → i < size_of e.directory k → k ≢ table_of f
      → get_or after.memory (start_of e.directory k + i) 0 ≡ get_or e.memory (start_of e.directory k + i) 0

-- an answer frame: RSP to the sender, under the identifier asked for, with the count asked for, and zeros past it
pub record Replied (e : Device) (f : Frame) (q : Request) (s : Served) : Type 0 where
  pub done : s.number ≡ 0
  pub one : s.frames ≡ 1
  pub ident : unpack_of s.frame.id ≡ Ok (record { offset = q.offset; kind = rsp; from = own_of e; to = id_from f.id; table = q.table })
  pub len : s.frame.len ≡ q.count
  pub eight : length s.frame.bytes ≡ 8
  pub zeros : (i : ℕ) → q.count ≤ i → get_or s.frame.bytes i 0 ≡ 0

-- REQ: exactly the asked bytes, all of them bytes of the addressed table, and nothing changes beyond what `acting` says
pub record RequestServed (e : Device) (f : Frame) (s : Served) (after : Device) : Type 0 where
  pub unchanged : after ≡ e
  pub reply : Replied e f (request_at f 0) s
  pub in_table : id_offset f.id + (request_at f 0).count ≤ size_at e f
  pub in_memory : place_of e f + (request_at f 0).count ≤ length e.memory
  pub asked : (i : ℕ) → i < (request_at f 0).count → get_or s.frame.bytes i 0 ≡ get_or e.memory (place_of e f + i) 0

-- the protocol query: 2, or 2 and the blocking factors, and nothing changes
pub record QueryServed (e : Device) (f : Frame) (s : Served) (after : Device) : Type 0 where
  pub unchanged : after ≡ e
  pub reply : Replied e f (request_at f 1) s
  pub short : (request_at f 1).count ≡ 1 → s.frame.bytes ≡ 2 ∷ 0 ∷ 0 ∷ 0 ∷ 0 ∷ 0 ∷ 0 ∷ 0 ∷ []
  pub long : (request_at f 1).count ≡ 5 → s.frame.bytes
      ≡ 2 ∷ e.directory.table_blocking / 256 ∷ e.directory.table_blocking % 256
      ∷ e.directory.write_blocking / 256 ∷ e.directory.write_blocking % 256 ∷ 0 ∷ 0 ∷ 0 ∷ []
  pub no_other : ((request_at f 1).count ≡ 1) ⊎ ((request_at f 1).count ≡ 5)

-- "makes the flash bytes of that table equal to the table's and touches no other flash byte": of two memories, table k of `from` is copied to
-- `to`, which is `after` afterwards
pub record TableCopied (d : Directory) (k : ℕ) (from to after : List ℕ) : Type 0 where
  pub within : (start_of d k + size_of d k ≤ length from) × (start_of d k + size_of d k ≤ length to)
  pub same_length : length after ≡ length to
  pub equal : (i : ℕ) → i < size_of d k → get_or after (start_of d k + i) 0 ≡ get_or from (start_of d k + i) 0
  pub others : (j : ℕ) → (j < start_of d k) ⊎ (start_of d k + size_of d k ≤ j) → get_or after j 0 ≡ get_or to j 0
  pub other_tables : (l i : ℕ) → l < 32 → i < size_of d l → l ≢ k → get_or after (start_of d l + i) 0 ≡ get_or to (start_of d l + i) 0

-- "XTND to the sender with offset 0, the burnt table, and bytes 0E 01"
pub record Acknowledged (e : Device) (f : Frame) (s : Served) : Type 0 where
  pub done : s.number ≡ 0
  pub one : s.frames ≡ 1
  pub ident : unpack_of s.frame.id ≡ Ok (record { offset = 0; kind = xtnd; from = own_of e; to = id_from f.id; table = table_of f })
  pub len : s.frame.len ≡ 2
  pub bytes : s.frame.bytes ≡ 0x0E ∷ 0x01 ∷ 0 ∷ 0 ∷ 0 ∷ 0 ∷ 0 ∷ 0 ∷ []

-- a served BURN of table k
abbrev pub BurnOf : Device → ℕ → Frame → Type 0
BurnOf e k f = ((serve_of e f).number ≡ 0) × (id_kind f.id ≡ burn) × (table_of f ≡ k)

-- a frame, and the state and working memory that are lent with it: what its host made of them, or began with at power-up
pub record LentFrame : Type 0 where
  pub state : HolderState
  pub memory : List ℕ
  pub frame : Frame

abbrev pub lent_with : Device → LentFrame → Device
lent_with e g = device e.directory g.state g.memory e.flash

-- the device after frames, one after the other
unfoldable pub after_all : Device → List LentFrame → Device
after_all e [] = e
after_all e (g ∷ gs) = after_all (device_after (lent_with e g) g.frame) gs

-- none of these frames is a served BURN of table k
unfoldable pub NoBurn : Device → ℕ → List LentFrame → Type 0
NoBurn e k [] = Unit
NoBurn e k (g ∷ gs) = ¬ BurnOf (lent_with e g) k g.frame × NoBurn (device_after (lent_with e g) g.frame) k gs

-- BURN: the table's flash bytes become the table's, no other flash byte changes, and no working byte beyond what `acting` says
pub record BurnServed (e : Device) (f : Frame) (s : Served) (after : Device) : Type 0 where
  pub reply : Acknowledged e f s
  pub same_tables : SameTables e after
  pub same_memory : after.memory ≡ e.memory
  pub burnt : TableCopied e.directory (table_of f) e.memory e.flash after.flash
  -- "switches off and finds yesterday's map": whatever frames follow, CMDs too, and whatever becomes of state and working memory between them, the
  -- burnt bytes last until the table is burnt again
  pub lasts : (gs : List LentFrame) → NoBurn after (table_of f) gs → (i : ℕ) → i < size_at e f
      → get_or (after_all after gs).flash (start_of e.directory (table_of f) + i) 0 ≡ get_or e.memory (start_of e.directory (table_of f) + i) 0

-- ── The two families: of the device before a served CMD, REQ or BURN ───────────────────────────────────────────────

-- C-13: "for any table not current"
abbrev pub IsCurrent : HolderState → ℕ → Type 0
IsCurrent s k = (s.has_current ≡ 1) × (s.current ≡ k)

-- byte j of working memory is one that the frame writes: a CMD's
abbrev pub Written : Device → Frame → ℕ → Type 0
Written e f j = (id_kind f.id ≡ cmd) × (place_of e f ≤ j) × (j < place_of e f + f.len)

-- the older family, the table not current: it "first makes its working bytes equal to its flash bytes, then acts"
pub record Reloaded (e : Device) (f : Frame) (s : Served) (after : Device) : Type 0 where
  pub reload : TableCopied e.directory (table_of f) e.flash e.memory (acting e f).memory
  -- "unburnt changes to the others are gone": a REQ shows flash's bytes
  pub asked : id_kind f.id ≡ req → (i : ℕ) → i < (request_at f 0).count → get_or s.frame.bytes i 0 ≡ get_or e.flash (place_of e f + i) 0
  -- afterwards all other working bytes of the table are its flash bytes
  pub others : (i : ℕ) → i < size_at e f → ¬ Written e f (start_of e.directory (table_of f) + i)
      → get_or after.memory (start_of e.directory (table_of f) + i) 0 ≡ get_or e.flash (start_of e.directory (table_of f) + i) 0
  pub other_tables : (k i : ℕ) → k < 32 → i < size_of e.directory k → k ≢ table_of f
      → get_or after.memory (start_of e.directory k + i) 0 ≡ get_or e.memory (start_of e.directory k + i) 0
  -- a BURN burns what was reloaded
  pub same_flash : after.flash ≡ e.flash

-- the newer family, or the table current: no working byte but the addressed ones changes
pub record Kept (e : Device) (f : Frame) (s : Served) (after : Device) : Type 0 where
  pub no_reload : (acting e f).memory ≡ e.memory
  pub asked : id_kind f.id ≡ req → (i : ℕ) → i < (request_at f 0).count → get_or s.frame.bytes i 0 ≡ get_or e.memory (place_of e f + i) 0
  pub burnt : id_kind f.id ≡ burn → TableCopied e.directory (table_of f) e.memory e.flash after.flash
  pub others : (j : ℕ) → ¬ Written e f j → get_or after.memory j 0 ≡ get_or e.memory j 0

-- a CMD, REQ or BURN is served
abbrev pub TableServed : Frame → Served → Type 0
TableServed f s = (s.number ≡ 0) × (id_kind f.id ≢ xtnd)

-- ── Which number ───────────────────────────────────────────────────────────────────────────────────────────────────

-- a table of a sound directory, and a sound directory
pub record SoundTable (d : Directory) (k : ℕ) : Type 0 where
  pub size : size_of d k ≤ 2056
  pub right : right_of d k ≤ 2

pub record SoundDirectory (d : Directory) : Type 0 where
  pub own : d.own ≤ 15
  pub tables : (k : ℕ) → k < 32 → SoundTable d k
  pub total : total_of d ≤ 32768

-- C-13: "its family (2, the older, or 3)"
abbrev pub KnownFamily : ℕ → Type 0
KnownFamily family = (family ≡ 2) ⊎ (family ≡ 3)

-- none is current, and what is unused is 0, or a table that is neither over 31 nor empty
abbrev pub CurrentTable : Directory → HolderState → Type 0
CurrentTable d s = ((s.has_current ≡ 0) × (s.current ≡ 0)) ⊎ ((s.has_current ≡ 1) × (s.current ≤ 31) × (size_of d s.current ≢ 0))

-- "11 for an unknown family or a current table empty or over 31"
pub record SoundState (d : Directory) (s : HolderState) : Type 0 where
  pub family : KnownFamily s.family
  pub current : CurrentTable d s

-- the first state of a family: none is current, and it is sound beside every directory; 11 for another family
pub record FirstOf (family : ℕ) (r : FirstState) : Type 0 where
  pub number : Unless (KnownFamily family) 11 Zero r.number
  pub first : r.number ≡ 0 → r.state ≡ none_current family
  pub sound : r.number ≡ 0 → (d : Directory) → SoundState d r.state
  pub refused : r.number ≢ 0 → r.state ≡ none_current 0

abbrev pub CommandNumber : Device → Frame → ℕ → Type 0
CommandNumber e f =
    First (f.len ≡ 0) 6
    (First ((size_at e f ≡ 0) ⊎ (right_at e f ≢ 2)) 7
    (First (size_at e f < id_offset f.id + f.len) 8
    Zero))

abbrev pub RequestNumber : Device → Frame → ℕ → Type 0
RequestNumber e f =
    Unless (f.len ≡ 3) 6
    (First ((size_at e f ≡ 0) ⊎ (right_at e f ≡ 0)) 7
    (Unless ((1 ≤ (request_at f 0).count) × ((request_at f 0).count ≤ 8)) 9
    (First (size_at e f < id_offset f.id + (request_at f 0).count) 8
    Zero)))

-- "offset not looked at", and there is no count: never 8 or 9
abbrev pub BurnNumber : Device → Frame → ℕ → Type 0
BurnNumber e f =
    Unless (f.len ≡ 0) 6
    (First ((size_at e f ≡ 0) ⊎ (right_at e f ≢ 2)) 7
    Zero)

abbrev pub QueryNumber : Frame → ℕ → Type 0
QueryNumber f =
    First (f.len ≡ 0) 6
    (Unless (byte_of f 0 ≡ 0x80) 5
    (Unless (f.len ≡ 4) 6
    (Unless (((request_at f 1).count ≡ 1) ⊎ ((request_at f 1).count ≡ 5)) 9
    Zero)))

-- by type; a type other than CMD, REQ, BURN and XTND is 5
pub record KindNumber (e : Device) (f : Frame) (n : ℕ) : Type 0 where
  pub command : id_kind f.id ≡ cmd → CommandNumber e f n
  pub request : id_kind f.id ≡ req → RequestNumber e f n
  pub burning : id_kind f.id ≡ burn → BurnNumber e f n
  pub query : id_kind f.id ≡ xtnd → QueryNumber f n
  pub other : id_kind f.id ≢ cmd → id_kind f.id ≢ req → id_kind f.id ≢ burn → id_kind f.id ≢ xtnd → n ≡ 5

-- 11, 10, 1, 2, 3, 4, then by type
abbrev pub ServeNumber : Device → Frame → ℕ → Type 0
ServeNumber e f =
    Unless (SoundState e.directory e.state × SoundDirectory e.directory) 11
    (Unless ((length e.memory ≡ total_of e.directory) × (length e.flash ≡ total_of e.directory)) 10
    (First (2 ^ 29 ≤ f.id) 1
    (Unless (id_spare f.id ≡ 0) 2
    (First (8 < f.len) 3
    (Unless (id_to f.id ≡ own_of e) 4
    (KindNumber e f))))))

-- ── Reserved bits, and the mark ────────────────────────────────────────────────────────────────────────────────────

-- the reserved bits of the request bytes from byte i on are clear: the first byte's top three, and bit 4 of the third
abbrev pub Clear : Frame → ℕ → Type 0
Clear f i = (byte_of f i < 32) × (byte_of f (2 + i) / 16 % 2 ≡ 0)

-- the same request with its reserved bits cleared
unfoldable pub cleared_at : Frame → ℕ → Frame
cleared_at f i = record { id = f.id; len = f.len; bytes = sets f.bytes i (cleared (byte_of f i) (byte_of f (1 + i)) (byte_of f (2 + i))) }

-- number, reply and the device after it are those of the same request with its reserved bits cleared, which is clear
pub record AsCleared (e : Device) (f : Frame) (i : ℕ) (s : Served) (after : Device) : Type 0 where
  pub is_clear : Clear (cleared_at f i) i
  pub number : (serve_of e (cleared_at f i)).number ≡ s.number
  pub frames : (serve_of e (cleared_at f i)).frames ≡ s.frames
  pub frame : (serve_of e (cleared_at f i)).frame ≡ s.frame
  pub device : device_after e (cleared_at f i) ≡ after

-- a REQ or a protocol query was answered, and its reserved bits are clear
abbrev pub ClearAnswered : Frame → Served → Type 0
ClearAnswered f s = (s.number ≡ 0) × (((id_kind f.id ≡ req) × Clear f 0) ⊎ ((id_kind f.id ≡ xtnd) × Clear f 1))

-- "1 if clear; 0 if not, and for other frames"; a refusal's numbers other than its own are 0
pub record Mark (f : Frame) (s : Served) : Type 0 where
  pub small : s.clear ≤ 1
  pub exactly : (s.clear ≡ 1) ↔ ClearAnswered f s

-- ── All of it ──────────────────────────────────────────────────────────────────────────────────────────────────────

pub record Demand2 (e : Device) (f : Frame) (s : Served) (after : Device) : Type 0 where
  pub number : ServeNumber e f s.number
  -- "Every refusal leaves state and lent memory unchanged and yields no frame"
  pub refused : s.number ≢ 0 → (s.frames ≡ 0) × (s ≡ no_answer s.number) × (after ≡ e)
  pub command : s.number ≡ 0 → id_kind f.id ≡ cmd → CommandServed (acting e f) f s after
  pub request : s.number ≡ 0 → id_kind f.id ≡ req → RequestServed (acting e f) f s after
  pub burning : s.number ≡ 0 → id_kind f.id ≡ burn → BurnServed (acting e f) f s after
  pub query : s.number ≡ 0 → id_kind f.id ≡ xtnd → QueryServed e f s after
  -- C-13: "on either family that of the last served CMD, REQ or BURN"
  pub current : TableServed f s → after.state ≡ currently e.state.family (table_of f)
  pub sound_state : s.number ≡ 0 → SoundState e.directory after.state
  pub reloaded : TableServed f s → e.state.family ≡ 2 → ¬ IsCurrent e.state (table_of f) → Reloaded e f s after
  pub kept : TableServed f s → (e.state.family ≡ 3) ⊎ IsCurrent e.state (table_of f) → Kept e f s after
  -- beyond C-11's words: every frame but a BURN, served or refused, leaves the flash as it was
  pub same_flash : id_kind f.id ≢ burn → after.flash ≡ e.flash
  -- C-16: "with the reserved bits ignored", in refusals too
  pub request_cleared : id_kind f.id ≡ req → AsCleared e f 0 s after
  pub query_cleared : id_kind f.id ≡ xtnd → AsCleared e f 1 s after
  pub mark : Mark f s
  -- input bytes past the length are ignored
  pub ignored : (g : Frame) → g.id ≡ f.id → g.len ≡ f.len → content g ≡ content f → (serve_of e g ≡ s) × (device_after e g ≡ after)
