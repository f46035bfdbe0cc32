-- DEMAND 3, as one statement over whole lists of calls, with the words of 01's last paragraph on the bridge in its order.
--
-- Calls are numbered from 0, oldest first; an event is the number of a call. What call n gets and answers depends on the calls
-- before it alone. All that follows goes by the calls, their answers and what the bridge handed back names as last served.
use Rattle.std.specs.Prelude.{ℕ, zero, suc, ◌+◌, ◌*◌, ◌/◌, ◌≤◌, ◌<◌, List, [], ◌∷◌, map, Bool, true, false, cond, not, ◌&&◌, length, get_or, set, replicate, ltb, eqb, ◌≡◌, ◌⊎◌, ◌≢◌}
use Rattle.std.proofs.Math.Option.{Option, none, some}
use Rattle.bus_rules.specs.Ident.{id_kind}
use Rattle.bus_rules.specs.Frames.{req}
use Rattle.bus_rules.specs.Holder.{request_at}
use Rattle.bus_rules.specs.declared.Frame.{Frame}
use Rattle.bridge_rules.specs.declared.Bridge.{Bridge}
use Rattle.bridge_rules.specs.State.{fresh}
use Rattle.bridge_rules.specs.Answers.{Answer, Buffers, Result}
use Rattle.bridge_rules.specs.Opening.{Ask, read, write, check, ask_count}
use Rattle.bridge_rules.specs.Turn.{chunk_len}
use Rattle.bridge_rules.specs.Call.{Lent, its_own, other, Call, opening, turn, frame, status, bytes, close, reset, step}

-- ── A run: any own number, any two buffers of 512 bytes and the calls ──────────────────────────────────────────────

pub record Run : Type 0 where
  pub own : ℕ
  pub buffers : Buffers
  pub calls : ℕ → Call

-- the bridge and its buffers
pub record Storage : Type 0 where
  pub state : Bridge
  pub buffers : Buffers

abbrev pub next : Storage → Call → Storage
next w c = let r : Result = step w.state w.buffers c in record { state = r.state; buffers = r.buffers }

-- after the first n calls: each gets the bridge as the last left it, and the bridge's own buffers
unfoldable pub storage : Run → ℕ → Storage
storage r zero = record { state = fresh r.own; buffers = r.buffers }
storage r (suc n) = next (storage r n) (r.calls n)

abbrev pub state : Run → ℕ → Bridge
state r n = (storage r n).state

abbrev pub buffers : Run → ℕ → Buffers
buffers r n = (storage r n).buffers

-- what a call c answers after the first n calls, and what call n answers
abbrev pub answer_to : Run → ℕ → Call → Answer
answer_to r n c = (step (state r n) (buffers r n) c).answer

abbrev pub answer : Run → ℕ → Answer
answer r n = answer_to r n (r.calls n)

-- the shape of arguments: a frame has eight bytes; of buffers that are not both the bridge's own, one is of wrong length (the other may
-- be the bridge's)
abbrev pub ShapedLent : Lent Buffers → Type 0
ShapedLent its_own = Unit {0}
ShapedLent (other l) = ¬ ((length l.first ≡ 512) × (length l.second ≡ 512))

abbrev pub Shaped : Call → Type 0
Shaped (opening l a) = ShapedLent l
Shaped (turn l) = ShapedLent l
Shaped (frame l f) = ShapedLent l × (length f.bytes ≡ 8)
Shaped (status t) = Unit {0}
Shaped (bytes its_own t) = Unit {0}
Shaped (bytes (other l) t) = length l ≢ 512
Shaped (close t) = Unit {0}
Shaped (reset o) = Unit {0}

pub record Lawful (r : Run) : Type 0 where
  pub own : r.own ≤ 15
  pub first : length r.buffers.first ≡ 512
  pub second : length r.buffers.second ≡ 512
  pub shaped : (k : ℕ) → Shaped (r.calls k)

-- ── The ledger: own number, tickets and slots by the calls and their answers alone ─────────────────────────────────

-- It uses the calls and their answers, never the bridge, and so do `slot_of` and the frames below; `Places` says that its slots are
-- the paper's.

-- a slot's ticket (0: free), and the accepted turns since its last request, if one went out since the last reset
pub record Entry : Type 0 where
  pub ticket : ℕ
  pub turns_since : Option ℕ

abbrev pub no_entry : Entry
no_entry = record { ticket = 0; turns_since = none }

-- the own number, the last ticket given, and each slot's entry
pub record Ledger : Type 0 where
  pub own : ℕ
  pub issued : ℕ
  pub entries : List Entry

abbrev pub new_ledger : ℕ → Ledger
new_ledger own = record { own = own; issued = 0; entries = replicate 4 no_entry }

abbrev pub with_entries : Ledger → List Entry → Ledger
with_entries g es = record { own = g.own; issued = g.issued; entries = es }

-- "A slot whose last request went out fewer than 60 turns ago is not given to a new transfer." (C-19)
abbrev pub resting : Option ℕ → Bool
resting none = false
resting (some n) = ltb n 60

-- a slot that an opening may take
abbrev pub givable_entry : Entry → Bool
givable_entry e = eqb e.ticket 0 && not (resting e.turns_since)

-- the first such slot; the number of slots if there is none
unfoldable pub first_givable : List Entry → ℕ
first_givable [] = 0
first_givable (e ∷ es) = cond (givable_entry e) 0 (suc (first_givable es))

-- an entry with another ticket; without ticket u; a turn later; of a slot whose request has just gone out
abbrev pub ticketed : ℕ → Entry → Entry
ticketed t e = record { ticket = t; turns_since = e.turns_since }

abbrev pub freed : ℕ → Entry → Entry
freed u e = ticketed (cond (eqb e.ticket u) 0 e.ticket) e

abbrev pub later : Option ℕ → Option ℕ
later none = none
later (some n) = some (suc n)

abbrev pub turn_later : Entry → Entry
turn_later e = record { ticket = e.ticket; turns_since = later e.turns_since }

abbrev pub just_asked : Entry → Entry
just_asked e = record { ticket = e.ticket; turns_since = some 0 }

-- entry k changed
abbrev pub change_at : List Entry → ℕ → (Entry → Entry) → List Entry
change_at es k g = set es k (g (get_or es k no_entry))

-- what a turn yields: a REQ tells its slot by its reply offset, of which each slot has 128
unfoldable pub slot_asked : Frame → ℕ
slot_asked f = (request_at f 0).offset / 128

abbrev pub noted_send : Option Frame → List Entry → List Entry
noted_send none es = es
noted_send (some f) es = cond (eqb (id_kind f.id) req) (change_at es (slot_asked f) just_asked) es

-- a call answered 0, and its answer: an opening takes the first slot that it may take, a closing frees its slot, a reset all; a turn
-- counts, and its REQ starts the count anew
abbrev pub noted : Ledger → Answer → Call → Ledger
noted g y (opening l a) =
    record { own = g.own; issued = y.ticket; entries = change_at g.entries (first_givable g.entries) (ticketed y.ticket) }
noted g y (turn l) = with_entries g (noted_send y.sent (map turn_later g.entries))
noted g y (frame l f) = g
noted g y (status u) = g
noted g y (bytes l u) = g
noted g y (close u) = with_entries g (map (freed u) g.entries)
noted g y (reset o) = new_ledger o

-- after the first n calls
unfoldable pub ledger : Run → ℕ → Ledger
ledger r zero = new_ledger r.own
ledger r (suc n) = cond (eqb (answer r n).number 0) (noted (ledger r n) (answer r n) (r.calls n)) (ledger r n)

-- ── "A transfer is an opening answered 0; it stands until its closing or a reset is answered 0." ───────────────────

-- a TRANSFER
pub record Transfer (r : Run) : Type 0 where
  pub at : ℕ
  pub lent : Lent Buffers
  pub ask : Ask
  pub call : r.calls at ≡ opening lent ask
  pub accepted : (answer r at).number ≡ 0

abbrev pub ticket : (r : Run) → Transfer r → ℕ
ticket r x = (answer r x.at).ticket

-- its slot: the lowest that was free and did not rest at its opening
unfoldable pub slot_of : (r : Run) → Transfer r → ℕ
slot_of r x = first_givable (ledger r x.at).entries

-- event m is its closing, or a reset, answered 0
abbrev pub Closing : (r : Run) → Transfer r → ℕ → Type 0
Closing r x m = ((answer r m).number ≡ 0) × ((r.calls m ≡ close (ticket r x)) ⊎ ((o : ℕ) × (r.calls m ≡ reset o)))

-- event m is a reset answered 0
abbrev pub Resetting : Run → ℕ → Type 0
Resetting r m = ((answer r m).number ≡ 0) × ((o : ℕ) × (r.calls m ≡ reset o))

-- it STANDS after the first n calls
abbrev pub Stands : (r : Run) → Transfer r → ℕ → Type 0
Stands r x n = (x.at < n) × ((m : ℕ) → x.at < m → m < n → ¬ Closing r x m)

-- its started eight bytes, here called chunks and numbered from 0, and the length of one: eight, the last shorter
abbrev pub chunks : (r : Run) → Transfer r → ℕ
chunks r x = (ask_count x.ask + 7) / 8

abbrev pub len_of : (r : Run) → Transfer r → ℕ → ℕ
len_of r x c = chunk_len (ask_count x.ask) (8 * c)

-- ── "Turns answered 0 are accepted, and only they count." ──────────────────────────────────────────────────────────

abbrev pub is_turn : Call → Bool
is_turn (opening l a) = false
is_turn (turn l) = true
is_turn (frame l f) = false
is_turn (status t) = false
is_turn (bytes l t) = false
is_turn (close t) = false
is_turn (reset o) = false

-- event m is an ACCEPTED turn
unfoldable pub accepted : Run → ℕ → Bool
accepted r m = is_turn (r.calls m) && eqb (answer r m).number 0

-- the number of accepted turns after event j and before event n
unfoldable pub turns : Run → ℕ → ℕ → ℕ
turns r j zero = 0
turns r j (suc n) = turns r j n + cond (ltb j n && accepted r n) 1 0

-- ── "Done is status 0 to its ticket while it stands, given up 16; a read shows what a bytes call with the bridge's
-- buffer hands back for it." ─────────────────────────────────────────────────────────────────────────────────────────

-- what status and the bytes call answer to a transfer's ticket after the first n calls
abbrev pub status_at : (r : Run) → Transfer r → ℕ → ℕ
status_at r x n = (answer_to r n (status (ticket r x))).number

-- what it SHOWS
abbrev pub shown_at : (r : Run) → Transfer r → ℕ → Answer
shown_at r x n = answer_to r n (bytes its_own (ticket r x))

-- DONE, GIVEN UP and, of a checked write, DIFFERENT, of a transfer that stands: no two hold together
abbrev pub Done : (r : Run) → Transfer r → ℕ → Type 0
Done r x n = status_at r x n ≡ 0

abbrev pub GivenUp : (r : Run) → Transfer r → ℕ → Type 0
GivenUp r x n = status_at r x n ≡ 16

abbrev pub Different : (r : Run) → Transfer r → ℕ → Type 0
Different r x n = status_at r x n ≡ 18

-- the accepted turns within which it ends, for each started eight bytes: C-17 has "76 .. in place of 72" for a checked write
abbrev pub turns_each : Ask → ℕ
turns_each (read d t o n) = 72
turns_each (write d t o bs) = 72
turns_each (check d t o bs) = 76
