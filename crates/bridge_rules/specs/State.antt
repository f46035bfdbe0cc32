-- 01 "Bridge": the state. Its slots, what a sound one is, and the searches over them, with the paper's words.
use Rattle.std.specs.Prelude.{ℕ, zero, suc, ◌+◌, ◌%◌, List, [], ◌∷◌, Bool, true, false, cond, not, ◌&&◌, ◌||◌, length, get_or, replicate, leb, ltb, eqb}
use Rattle.std.proofs.Math.Option.{Option, none, some}
use Rattle.wire.specs.Order.{◌if◌else◌}
pub use Rattle.bus_rules.specs.declared.Frame.{Frame}
pub use Rattle.bridge_rules.specs.declared.Bridge.{Bridge}
pub use Rattle.bridge_rules.specs.declared.Slot.{Slot}

-- ── Phases and kinds ───────────────────────────────────────────────────────────────────────────────────────────────

-- a slot's phases
abbrev pub free : ℕ
free = 0

abbrev pub ready : ℕ
ready = 1

abbrev pub waiting : ℕ
waiting = 2

abbrev pub done : ℕ
done = 3

abbrev pub gave_up : ℕ
gave_up = 4

-- read back different
abbrev pub different : ℕ
different = 5

abbrev pub is_free : ℕ → Bool
is_free phase = eqb phase free

abbrev pub is_ready : ℕ → Bool
is_ready phase = eqb phase ready

abbrev pub is_waiting : ℕ → Bool
is_waiting phase = eqb phase waiting

-- a transfer's kinds
abbrev pub reads : ℕ
reads = 0

abbrev pub writes : ℕ
writes = 1

-- a checked write (02, C-17) "sends the write, then reads the same range back": while it sends, and from then on
abbrev pub checks : ℕ
checks = 3

abbrev pub reads_back : ℕ
reads_back = 2

-- the tests of a kind, and nothing else looks at it: a slot of a kind that asks sends REQ and may wait (01's words on a waiting read hold of
-- every slot that waits), one of a kind that carries sends CMD
unfoldable pub asks : ℕ → Bool
asks kind = eqb kind reads || eqb kind reads_back

unfoldable pub carries : ℕ → Bool
carries kind = eqb kind writes || eqb kind checks

-- it carries the second buffer's bytes, and reads back what it sent
unfoldable pub checking : ℕ → Bool
checking kind = eqb kind checks

-- its replies are compared
unfoldable pub compares : ℕ → Bool
compares kind = eqb kind reads_back

-- its bytes are shown: a checked write "shows no bytes"
unfoldable pub shows : ℕ → Bool
shows kind = eqb kind reads

-- ── The state ──────────────────────────────────────────────────────────────────────────────────────────────────────

-- a free slot: numbers that a slot doesn't use are 0
abbrev pub blank : Slot
blank = record { ticket = 0; offset = 0; phase = free; kind = 0; device = 0; table = 0; count = 0; progress = 0; sends = 0; left = 0 }

unfoldable pub slot : Bridge → ℕ → Slot
slot s k = get_or s.slots k blank

-- the FRESH bridge of an own number. Its search starts at slot 0, so slot 3 counts as last served
unfoldable pub fresh : ℕ → Bridge
fresh own = record { slots = replicate 4 blank; issued = 0; own = own; last = 3; rests = replicate 4 0 }

abbrev pub with_slots : Bridge → List Slot → Bridge
with_slots s xs = record { slots = xs; issued = s.issued; own = s.own; last = s.last; rests = s.rests }

-- "each slot's turns left to rest" (02, C-19), whether it is free or held
unfoldable pub rest : Bridge → ℕ → ℕ
rest s k = get_or s.rests k 0

-- the turns that a slot rests after a request: "A slot whose last request went out fewer than 60 turns ago is not given to a new transfer"
abbrev pub rest_turns : ℕ
rest_turns = 60

-- a slot of another kind
abbrev pub of_kind : ℕ → Slot → Slot
of_kind kind x = record {
  ticket = x.ticket;
  offset = x.offset;
  phase = x.phase;
  kind = kind;
  device = x.device;
  table = x.table;
  count = x.count;
  progress = x.progress;
  sends = x.sends;
  left = x.left;
}

-- a slot moved on: what may change, and the other numbers kept
abbrev pub moved : Slot → (phase progress sends left : ℕ) → Slot
moved x phase progress sends left = record {
  ticket = x.ticket;
  offset = x.offset;
  phase = phase;
  kind = x.kind;
  device = x.device;
  table = x.table;
  count = x.count;
  progress = progress;
  sends = sends;
  left = left;
}

-- ── A lawful opening ────────────────────────────────────────────────────────────────────────────────────────────────

-- opening takes device 0..15 and table 0..31 (else 7), 1..128 bytes (else 9), offset plus count at most 2,048 (else 8)
unfoldable pub ask_number : (device table offset count : ℕ) → ℕ
ask_number device table offset count =
    7 if ltb 15 device
    else 7 if ltb 31 table
    else 9 if eqb count 0
    else 9 if ltb 128 count
    else 8 if ltb 2048 (offset + count)
    else 0

-- ── A SOUND state ──────────────────────────────────────────────────────────────────────────────────────────────────

abbrev pub is_zero : ℕ → Bool
is_zero n = eqb n 0

-- progress a multiple of 8 below the count
abbrev pub partway : ℕ → ℕ → Bool
partway count progress = eqb (progress % 8) 0 && ltb progress count

-- progress is the count itself exactly when done; ready has 0..2 sends, waiting 1..3 and 1..20 turns left, given up has 3; a write
-- or done read has no sends, a write never waits or gives up; a checked write "is sound as an unfinished write while sending, then as a
-- read; different, with progress a multiple of 8 below the count and no sends"; no other phase is sound
unfoldable pub sound_phase : (phase kind count progress sends left : ℕ) → Bool
sound_phase phase kind count progress sends left =
    cond (is_ready phase) (partway count progress && leb sends (cond (asks kind) 2 0) && is_zero left)
    (cond (is_waiting phase) (partway count progress && asks kind && ltb 0 sends && leb sends 3 && ltb 0 left && leb left 20)
    (cond (eqb phase done) (not (checking kind) && eqb progress count && is_zero sends && is_zero left)
    (cond (eqb phase gave_up) (partway count progress && asks kind && eqb sends 3 && is_zero left)
    (cond (eqb phase different) (partway count progress && compares kind && is_zero sends && is_zero left)
    false))))

-- each held slot has a ticket from 1 to the last given, and lawful opening arguments; numbers that a slot doesn't use are 0
unfoldable pub sound_slot : ℕ → Slot → Bool
sound_slot issued x =
    cond (is_free x.phase)
    (is_zero x.kind && is_zero x.ticket && is_zero x.device && is_zero x.table && is_zero x.offset
    && is_zero x.count && is_zero x.progress && is_zero x.sends && is_zero x.left)
    ((asks x.kind || carries x.kind) && ltb 0 x.ticket && leb x.ticket issued
    && is_zero (ask_number x.device x.table x.offset x.count)
    && sound_phase x.phase x.kind x.count x.progress x.sends x.left)

unfoldable pub sound_slots : ℕ → List Slot → Bool
sound_slots issued [] = true
sound_slots issued (x ∷ xs) = sound_slot issued x && sound_slots issued xs

-- each held slot has a different ticket: none of these slots has this one (0: a free slot's)
unfoldable pub absent : ℕ → List Slot → Bool
absent t [] = true
absent t (x ∷ xs) = (is_zero t || not (eqb x.ticket t)) && absent t xs

unfoldable pub distinct : List Slot → Bool
distinct [] = true
distinct (x ∷ xs) = absent x.ticket xs && distinct xs

-- each slot's turns left to rest, "sound from 0 to 60"
unfoldable pub sound_rests : List ℕ → Bool
sound_rests [] = true
sound_rests (n ∷ ns) = leb n 60 && sound_rests ns

-- own number 0..15, last served 0..3 (and, as the declared types have it: tickets to 4,294,967,295, four slots and rests)
unfoldable pub sound : Bridge → Bool
sound s =
    leb s.own 15 && leb s.last 3 && leb s.issued 4294967295 && eqb (length s.slots) 4 && eqb (length s.rests) 4
    && sound_rests s.rests && sound_slots s.issued s.slots && distinct s.slots

-- ── Searches ───────────────────────────────────────────────────────────────────────────────────────────────────────

-- the first of n slots from `start` on, slot 0 after slot 3, that passes a test
unfoldable pub first_slot : (ℕ → Bool) → ℕ → ℕ → Option ℕ
first_slot p start zero = none
first_slot p start (suc n) = cond (p (start % 4)) (some (start % 4)) (first_slot p (suc start) n)

-- the lowest free slot, whether it rests or not
unfoldable pub lowest_free : Bridge → Option ℕ
lowest_free s = first_slot (λ k. is_free (slot s k).phase) 0 4

-- a slot that an opening may take: it is free and does not rest
abbrev pub givable : Bridge → ℕ → Bool
givable s k = is_free (slot s k).phase && is_zero (rest s k)

-- the lowest such slot
unfoldable pub lowest_givable : Bridge → Option ℕ
lowest_givable s = first_slot (givable s) 0 4

-- the slot that a ticket's transfer holds
unfoldable pub held_slot : Bridge → ℕ → Option ℕ
held_slot s ticket = first_slot (λ k. not (is_free (slot s k).phase) && eqb (slot s k).ticket ticket) 0 4

-- the search for a ready slot starts at the slot after the one last served
unfoldable pub next_ready : Bridge → Option ℕ
next_ready s = first_slot (λ k. is_ready (slot s k).phase) (suc s.last) 4

-- whether a search failed, and what it found
abbrev pub is_none : Option ℕ → Bool
is_none none = true
is_none (some k) = false

abbrev pub or_zero : Option ℕ → ℕ
or_zero none = 0
or_zero (some k) = k
