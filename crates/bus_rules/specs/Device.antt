-- 01 "Table holder": a device is a directory and the memory in which its tables lie. 02, C-11: "A second lent memory, as long as the first,
-- is the flash." C-13: "The holder is told its family (2, the older, or 3) and remembers the current table".
use Rattle.std.specs.Prelude.{ℕ, zero, suc, ◌+◌, ◌≡◌, Bool, true, not, cond, ◌&&◌, ◌||◌, List, leb, eqb, get_or, take, drop, Result, Ok, Err}
use Rattle.std.proofs.lemmas.List.Edits.{sets}
use Rattle.wire.specs.Order.{◌if◌else◌, ◌or_else◌}
use Rattle.wire.specs.declared.refusal.Refusal.{Refusal}
use Rattle.wire.specs.Refusals.{code}
pub use Rattle.bus_rules.specs.declared.Directory.{Directory}
pub use Rattle.bus_rules.specs.declared.HolderState.{HolderState}
pub use Rattle.bus_rules.specs.declared.FirstState.{FirstState}

-- ── The directory ──────────────────────────────────────────────────────────────────────────────────────────────────

unfoldable pub size_of : Directory → ℕ → ℕ
size_of d k = get_or d.sizes k 0

unfoldable pub right_of : Directory → ℕ → ℕ
right_of d k = get_or d.rights k 0

-- 32 tables lie back to back; table k starts at the sum of the sizes before it
unfoldable pub start_of : Directory → ℕ → ℕ
start_of d zero = 0
start_of d (suc k) = start_of d k + size_of d k

unfoldable pub total_of : Directory → ℕ
total_of d = start_of d 32

-- of the first n tables: size 0..2,056, right 0 none, 1 read, 2 read and write
unfoldable pub sound_tables : Directory → ℕ → Bool
sound_tables d zero = true
sound_tables d (suc n) = sound_tables d n && leb (size_of d n) 2056 && leb (right_of d n) 2

-- total at most 32,768, own number 0..15
unfoldable pub sound_directory : Directory → Bool
sound_directory d = leb d.own 15 && sound_tables d 32 && leb (total_of d) 32768

-- 11: directory or own number unsound
unfoldable pub directory_number : Directory → ℕ
directory_number d = 11 if not (sound_directory d) else 0

-- 10: lent memory of wrong length. Memory has exactly the total length. C-11: "10 also for a flash of the wrong length"
unfoldable pub length_number : Directory → (memory flash : ℕ) → ℕ
length_number d memory flash = 10 if not (eqb memory (total_of d)) || not (eqb flash (total_of d)) else 0

-- 11, 10: what is judged of the directory and of the lengths of memory and flash
unfoldable pub memory_number : Directory → (memory flash : ℕ) → ℕ
memory_number d memory flash = directory_number d or_else length_number d memory flash

-- ── The holder's state, C-13 ───────────────────────────────────────────────────────────────────────────────────────

-- no table is current, or table k is
unfoldable pub none_current : (family : ℕ) → HolderState
none_current family = record { family = family; has_current = 0; current = 0 }

unfoldable pub currently : (family k : ℕ) → HolderState
currently family k = record { family = family; has_current = 1; current = k }

unfoldable pub is_current : HolderState → ℕ → Bool
is_current s k = eqb s.has_current 1 && eqb s.current k

-- "its family (2, the older, or 3)"
unfoldable pub known_family : ℕ → Bool
known_family family = eqb family 2 || eqb family 3

-- no table is current, and 0 stands in its place; or one is, not over 31 and not empty
unfoldable pub sound_current : Directory → HolderState → Bool
sound_current d s =
    (eqb s.has_current 0 && eqb s.current 0)
    || (eqb s.has_current 1 && leb s.current 31 && not (eqb (size_of d s.current) 0))

-- "Refusals: 11 for an unknown family or a current table empty or over 31"
unfoldable pub state_number : Directory → HolderState → ℕ
state_number d s = 11 if not (known_family s.family && sound_current d s) else 0

-- "none at first"; every number in a refusal but its own is 0
unfoldable pub first_state_of : (family : ℕ) → FirstState
first_state_of family =
    cond (known_family family) (record { number = 0; state = none_current family }) (record { number = 11; state = none_current 0 })

-- what C sees of a first state or a refusal of its family
abbrev pub as_first_state : Result HolderState Refusal → FirstState
as_first_state (Ok s) = record { number = 0; state = s }
as_first_state (Err e) = record { number = code e; state = none_current 0 }

-- ── The device ─────────────────────────────────────────────────────────────────────────────────────────────────────

-- all that a frame's answer, and what it leaves, depend on
pub record Device : Type 0 where
  pub directory : Directory
  pub state : HolderState
  pub memory : List ℕ
  pub flash : List ℕ

-- the device of a directory, a state, and the memory and flash lent with them
abbrev pub device : Directory → HolderState → (memory flash : List ℕ) → Device
device d s memory flash = record { directory = d; state = s; memory = memory; flash = flash }

abbrev pub own_of : Device → ℕ
own_of e = e.directory.own

-- the bytes of a table's range in working memory: so many, from an offset on
unfoldable pub range_of : Device → (table offset count : ℕ) → List ℕ
range_of e table offset count = take count (drop (start_of e.directory table + offset) e.memory)

-- of two memories: `to`, with table k of `from` copied to its table k
unfoldable pub copy_table : Directory → ℕ → (from to : List ℕ) → List ℕ
copy_table d k from to = sets to (start_of d k) (take (size_of d k) (drop (start_of d k) from))

-- C-13: "On the older family a served CMD, REQ or BURN for any table not current first makes its working bytes equal to its flash bytes"
unfoldable pub reloads : HolderState → ℕ → Bool
reloads s k = eqb s.family 2 && not (is_current s k)

-- the device with table k current, reloaded where that is so: "on either family that of the last served CMD, REQ or BURN"
unfoldable pub with_current : Device → ℕ → Device
with_current e k = record {
  directory = e.directory;
  state = currently e.state.family k;
  memory = cond (reloads e.state k) (copy_table e.directory k e.flash e.memory) e.memory;
  flash = e.flash;
}

-- the same directory, whatever the tables hold
abbrev pub SameTables : Device → Device → Type 0
SameTables e e' = e.directory ≡ e'.directory
