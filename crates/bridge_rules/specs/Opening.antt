-- 01 "Bridge": opening a transfer.
use Rattle.std.specs.Prelude.{ℕ, suc, ◌*◌, List, [], Bool, true, false, cond, length, set, leb}
use Rattle.std.proofs.Math.Option.{none}
use Rattle.std.proofs.lemmas.List.Edits.{sets}
use Rattle.wire.specs.Order.{◌if◌else◌, ◌or_else◌}
use Rattle.bridge_rules.specs.declared.Bridge.{Bridge}
use Rattle.bridge_rules.specs.declared.Slot.{Slot}
use Rattle.bridge_rules.specs.State.{ready, reads, writes, checks, ask_number, lowest_free, lowest_givable, is_none, or_zero}
use Rattle.bridge_rules.specs.Answers.{Buffers, Result, unless, lent_number, right_lengths}

-- ── What an opening asks for ───────────────────────────────────────────────────────────────────────────────────────

-- a write's count is the number of its bytes, a checked write's too
pub data Ask : Type 0 where
  read : (device table offset count : ℕ) → Ask
  write : (device table offset : ℕ) (given : List ℕ) → Ask
  check : (device table offset : ℕ) (given : List ℕ) → Ask

abbrev pub is_read : Ask → Bool
is_read (read d t o n) = true
is_read (write d t o bs) = false
is_read (check d t o bs) = false

abbrev pub is_write : Ask → Bool
is_write (read d t o n) = false
is_write (write d t o bs) = true
is_write (check d t o bs) = false

abbrev pub is_check : Ask → Bool
is_check (read d t o n) = false
is_check (write d t o bs) = false
is_check (check d t o bs) = true

abbrev pub ask_kind : Ask → ℕ
ask_kind (read d t o n) = reads
ask_kind (write d t o bs) = writes
ask_kind (check d t o bs) = checks

abbrev pub ask_device : Ask → ℕ
ask_device (read d t o n) = d
ask_device (write d t o bs) = d
ask_device (check d t o bs) = d

abbrev pub ask_table : Ask → ℕ
ask_table (read d t o n) = t
ask_table (write d t o bs) = t
ask_table (check d t o bs) = t

abbrev pub ask_offset : Ask → ℕ
ask_offset (read d t o n) = o
ask_offset (write d t o bs) = o
ask_offset (check d t o bs) = o

abbrev pub ask_count : Ask → ℕ
ask_count (read d t o n) = n
ask_count (write d t o bs) = length bs
ask_count (check d t o bs) = length bs

-- the bytes that it was given
abbrev pub ask_given : Ask → List ℕ
ask_given (read d t o n) = []
ask_given (write d t o bs) = bs
ask_given (check d t o bs) = bs

-- those that are copied into the first buffer, and into the second
abbrev pub to_first : Ask → List ℕ
to_first a = cond (is_write a) (ask_given a) []

abbrev pub to_second : Ask → List ℕ
to_second a = cond (is_check a) (ask_given a) []

-- ── Opening ────────────────────────────────────────────────────────────────────────────────────────────────────────

-- 12 / 13: no free slot / tickets used up; C-19: "19 in 12's place where slots are free but all resting"
unfoldable pub room_number : Bridge → ℕ
room_number s =
    12 if is_none (lowest_free s)
    else 19 if is_none (lowest_givable s)
    else 13 if leb 4294967295 s.issued
    else 0

-- Order: 11, 10, 7, 9, 8, 12 or 19, 13
unfoldable pub open_number : Bridge → Bool → Ask → ℕ
open_number s ok a =
    lent_number s ok or_else ask_number (ask_device a) (ask_table a) (ask_offset a) (ask_count a) or_else room_number s

-- the slot that it takes
unfoldable pub opened : Ask → ℕ → Slot
opened a ticket = record {
  ticket = ticket;
  offset = ask_offset a;
  phase = ready;
  kind = ask_kind a;
  device = ask_device a;
  table = ask_table a;
  count = ask_count a;
  progress = 0;
  sends = 0;
  left = 0;
}

-- a write's bytes are copied into its slot (128 bytes of the buffer per slot), and their number is the count; a checked write's "opening
-- copies only into a second lent buffer"
abbrev pub with_given : Buffers → ℕ → Ask → Buffers
with_given b k a = record { first = sets b.first (128 * k) (to_first a); second = sets b.second (128 * k) (to_second a) }

-- it takes the lowest free slot that does not rest, and the next ticket, from 1 to 4,294,967,295
unfoldable pub open_of : Bridge → Buffers → Ask → Result
open_of s b a = unless (open_number s (right_lengths b) a) (record {
  answer = record { number = 0; ticket = suc s.issued; sent = none; shown = [] };
  state = record {
    slots = set s.slots k (opened a (suc s.issued));
    issued = suc s.issued;
    own = s.own;
    last = s.last;
    rests = s.rests;
  };
  buffers = with_given b k a;
}) s b
  where
    k : ℕ
    k = or_zero (lowest_givable s)
