-- 01 "Table holder": what a device answers to a frame, and the device after it, in the paper's order; BURN is 02, C-11's, the
-- current table and the reload C-13's, the mark beside the answer C-16's.
use Rattle.std.specs.Prelude.{ℕ, zero, suc, ◌+◌, ◌≡◌, cond, not, List, [], ◌∷◌, ◌++◌, ltb, eqb, length, get_or, take}
use Rattle.std.proofs.lemmas.List.Edits.{sets}
use Rattle.wire.specs.Order.{◌if◌else◌, ◌or_else◌}
use Rattle.wire.specs.BigEndian.{be_bytes}
use Rattle.bus_rules.specs.Ident.{id_table, id_from, id_kind, id_offset, id_of}
use Rattle.bus_rules.specs.Frames.{Frame, cmd, req, rsp, burn, xtnd, content, frame_with, no_frame, head_number}
use Rattle.bus_rules.specs.Request.{Request, RequestRead, read_request_of}
use Rattle.bus_rules.specs.Device.{Directory, Device, own_of, range_of, copy_table, size_of, right_of, start_of, memory_number, state_number, with_current}
pub use Rattle.bus_rules.specs.declared.Served.{Served}

-- ── Refusals by type. 6: length wrong (C-16: "6 no longer covers reserved bits"); 7: table empty, or lacks the right; 9: count not
-- allowed; 8: range past its end ─────────────────────────────────────────────────────────────────────────────────────

-- CMD, length 1..8. Needs right 2
unfoldable pub command_number : (len size right offset : ℕ) → ℕ
command_number len size right offset =
    6 if eqb len 0
    else 7 if eqb size 0
    else 7 if not (eqb right 2)
    else 8 if ltb size (offset + len)
    else 0

-- REQ, length 3, count 1..8, needs a right
unfoldable pub request_number : (len size right offset count : ℕ) → ℕ
request_number len size right offset count =
    6 if not (eqb len 3)
    else 7 if eqb size 0
    else 7 if eqb right 0
    else 9 if eqb count 0
    else 9 if ltb 8 count
    else 8 if ltb size (offset + count)
    else 0

-- C-11: BURN, "type 4, length 0, right 2, offset not looked at"
unfoldable pub burn_number : (len size right : ℕ) → ℕ
burn_number len size right =
    6 if not (eqb len 0)
    else 7 if eqb size 0
    else 7 if not (eqb right 2)
    else 0

-- XTND of length 0 is 6. First byte 0x80 (protocol query); other first bytes: 5. Length 4, request bytes after it, count 1 or 5.
-- Its table and offset aren't looked at
unfoldable pub query_number : (len first count : ℕ) → ℕ
query_number len first count =
    6 if eqb len 0
    else 5 if not (eqb first 0x80)
    else 6 if not (eqb len 4)
    else 0 if eqb count 1
    else 0 if eqb count 5
    else 9

-- byte i of a frame, what is read from the request bytes that start there, and the request in them
unfoldable pub byte_of : Frame → ℕ → ℕ
byte_of f i = get_or f.bytes i 0

unfoldable pub read_at : Frame → ℕ → RequestRead
read_at f i = read_request_of (byte_of f i) (byte_of f (1 + i)) (byte_of f (2 + i))

unfoldable pub request_at : Frame → ℕ → Request
request_at f i = (read_at f i).request

-- the addressed table, its size and its right
abbrev pub table_of : Frame → ℕ
table_of f = id_table f.id

abbrev pub size_at : Device → Frame → ℕ
size_at e f = size_of e.directory (table_of f)

abbrev pub right_at : Device → Frame → ℕ
right_at e f = right_of e.directory (table_of f)

-- by a frame's type: CMD, REQ, BURN, XTND, or another
unfoldable pub by_kind : {A : Type 0} → ℕ → A → A → A → A → A → A
by_kind k c r b x other = cond (eqb k cmd) c (cond (eqb k req) r (cond (eqb k burn) b (cond (eqb k xtnd) x other)))

-- 5 (type not served: RSP gets 5 here), 6, 7, 9, 8
unfoldable pub kind_number : Device → Frame → ℕ
kind_number e f =
    by_kind (id_kind f.id)
    (command_number f.len (size_at e f) (right_at e f) (id_offset f.id))
    (request_number f.len (size_at e f) (right_at e f) (id_offset f.id) (request_at f 0).count)
    (burn_number f.len (size_at e f) (right_at e f))
    (query_number f.len (byte_of f 0) (request_at f 1).count)
    5

-- 11 and 10
unfoldable pub device_number : Device → ℕ
device_number e = state_number e.directory e.state or_else memory_number e.directory (length e.memory) (length e.flash)

-- Order: 11, 10, 1, 2, 3, 4, 5, 6, 7, 9, 8, with one exception: XTND of length 0 is 6
unfoldable pub serve_number : Device → Frame → ℕ
serve_number e f = device_number e or_else head_number (own_of e) f or_else kind_number e f

-- ── Answers ────────────────────────────────────────────────────────────────────────────────────────────────────────

-- a number and no frame; the mark is 0 "for other frames" than REQ and the protocol query, and in a refusal
unfoldable pub no_answer : ℕ → Served
no_answer n = record { number = n; frames = 0; clear = 0; frame = no_frame }

-- one frame, and the mark beside it
unfoldable pub answer_with : ℕ → Frame → Served
answer_with clear f = record { number = 0; frames = 1; clear = clear; frame = f }

-- answers RSP, with the reply table and offset asked for, and these bytes; "hands that mark back beside its answer frame"
unfoldable pub reply_to : (own to : ℕ) → RequestRead → List ℕ → Served
reply_to own to q bs = answer_with q.clear (frame_with (id_of q.request.offset rsp own to q.request.table) bs)

-- C-11: "The reply is XTND to the sender with offset 0, the burnt table, and bytes 0E 01"
unfoldable pub acknowledgement : (own to table : ℕ) → Served
acknowledgement own to table = answer_with 0 (frame_with (id_of 0 xtnd own to table) (0x0E ∷ 0x01 ∷ []))

-- where the frame's offset lies in memory
unfoldable pub place_of : Device → Frame → ℕ
place_of e f = start_of e.directory (table_of f) + id_offset f.id

-- the byte 2, or 2 then the directory's table and write blocking factors, 16 bits each, high byte first
unfoldable pub protocol : Directory → List ℕ
protocol d = 2 ∷ (be_bytes 2 d.table_blocking ++ be_bytes 2 d.write_blocking)

-- C-13: what a CMD, REQ or BURN acts on, the device with its table current: it "first makes its working bytes equal to its flash bytes, then acts"
abbrev pub acting : Device → Frame → Device
acting e f = with_current e (table_of f)

-- of a frame that is not refused: the answer, to the sender. (Another type is refused with 5 before.)
unfoldable pub act_of : Device → Frame → Served
act_of e f =
    by_kind (id_kind f.id)
    (no_answer 0)
    (reply_to (own_of e) (id_from f.id) (read_at f 0) (range_of (acting e f) (table_of f) (id_offset f.id) (request_at f 0).count))
    (acknowledgement (own_of e) (id_from f.id) (table_of f))
    (reply_to (own_of e) (id_from f.id) (read_at f 1) (take (request_at f 1).count (protocol e.directory)))
    (no_answer 0)

-- CMD stores the bytes at the offset
unfoldable pub storing : Device → Frame → Device
storing e f = record { directory = e.directory; state = e.state; memory = sets e.memory (place_of e f) (content f); flash = e.flash }

-- C-11: "A burn makes the flash bytes of that table equal to the table's and touches no other flash byte; working memory doesn't change"
unfoldable pub burning : Device → Frame → Device
burning e f = record {
  directory = e.directory;
  state = e.state;
  memory = e.memory;
  flash = copy_table e.directory (table_of f) e.memory e.flash;
}

-- and the device after it; the protocol query leaves it
unfoldable pub act_after : Device → Frame → Device
act_after e f = by_kind (id_kind f.id) (storing (acting e f) f) (acting e f) (burning (acting e f) f) e e

-- of any frame: a refusal yields no frame and leaves the device unchanged
unfoldable pub served_by : ℕ → Served → Served
served_by zero s = s
served_by (suc n) s = no_answer (suc n)

unfoldable pub after_by : ℕ → Device → Device → Device
after_by zero after before = after
after_by (suc n) after before = before

-- the answer
unfoldable pub serve_of : Device → Frame → Served
serve_of e f = served_by (serve_number e f) (act_of e f)

-- the device after it served the frame
unfoldable pub device_after : Device → Frame → Device
device_after e f = after_by (serve_number e f) (act_after e f) e

-- the device gives the frame g for the frame f, whatever the mark beside it (a refusal has no frame)
abbrev pub Gives : Device → Frame → Frame → Type 0
Gives e f g = ((serve_of e f).frames ≡ 1) × ((serve_of e f).frame ≡ g)
