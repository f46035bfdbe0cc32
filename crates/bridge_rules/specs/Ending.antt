-- 01 "Bridge": status, bytes, closing and reset.
use Rattle.std.specs.Prelude.{ℕ, ◌*◌, List, cond, not, length, set, ltb, eqb}
use Rattle.std.proofs.Math.Option.{none}
use Rattle.wire.specs.Order.{◌if◌else◌}
use Rattle.wire.specs.Log.{part_of}
use Rattle.wire.specs.declared.views.Span.{Span}
use Rattle.bridge_rules.specs.declared.Bridge.{Bridge}
use Rattle.bridge_rules.specs.declared.Changed.{Changed}
use Rattle.bridge_rules.specs.State.{done, gave_up, different, shows, blank, slot, fresh, with_slots, sound, held_slot, is_none, or_zero}
use Rattle.bridge_rules.specs.Answers.{Answer, changed_by}

-- of a held slot: 0 done, 16 gave up, 18 "read back different, a status after 16", 15 not finished. Done write means sent, no more
unfoldable pub phase_number : ℕ → ℕ
phase_number phase = 0 if eqb phase done else 16 if eqb phase gave_up else 18 if eqb phase different else 15

-- 14: ticket unknown
unfoldable pub ticket_number : Bridge → ℕ → ℕ
ticket_number s t = 14 if is_none (held_slot s t) else phase_number (slot s (or_zero (held_slot s t))).phase

-- status answers 11, then 0, 14, 15, 16 or 18
unfoldable pub status_of : Bridge → ℕ → ℕ
status_of s t = 11 if not (sound s) else ticket_number s t

-- the bytes call: 11, 10, then status's number
unfoldable pub bytes_number : Bridge → ℕ → ℕ → ℕ
bytes_number s n t = 11 if not (sound s) else 10 if not (eqb n 512) else ticket_number s t

abbrev pub no_span : ℕ → Span
no_span n = record { number = n; start = 0; len = 0 }

-- where a done transfer's bytes lie: in its slot's part of the buffer for a read, nowhere for a write or a checked write
unfoldable pub slot_span : Bridge → ℕ → Span
slot_span s k = cond (shows (slot s k).kind) (record { number = 0; start = 128 * k; len = (slot s k).count }) (no_span 0)

-- of a ticket, with a buffer of length n
unfoldable pub span_of : Bridge → ℕ → ℕ → Span
span_of s n t = cond (eqb (bytes_number s n t) 0) (slot_span s (or_zero (held_slot s t))) (no_span (bytes_number s n t))

-- hands back that part of the buffer for a done read, an empty part otherwise
unfoldable pub bytes_of : Bridge → List ℕ → ℕ → Answer
bytes_of s b t =
    record { number = (span_of s (length b) t).number; ticket = 0; sent = none; shown = part_of b (span_of s (length b) t) }

-- closing (11, 14) frees the slot in any state, and freed slots are used again, once they do not rest (C-19): its rest stays
unfoldable pub close_number : Bridge → ℕ → ℕ
close_number s t = 11 if not (sound s) else 14 if is_none (held_slot s t) else 0

unfoldable pub close_of : Bridge → ℕ → Changed
close_of s t = changed_by (close_number s t) (with_slots s (set s.slots (or_zero (held_slot s t)) blank)) s

-- reset turns any state into the fresh bridge of a given own number (11 if over 15)
unfoldable pub reset_number : ℕ → ℕ
reset_number own = 11 if ltb 15 own else 0

unfoldable pub reset_of : Bridge → ℕ → Changed
reset_of s own = changed_by (reset_number own) (fresh own) s
