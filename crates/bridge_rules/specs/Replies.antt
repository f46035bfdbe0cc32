-- DEMAND 3, continued: what a transfer sends, and what replies to it.
use Rattle.std.specs.Prelude.{ℕ, suc, ◌+◌, ◌*◌, ◌≤◌, ◌<◌, List, Bool, true, false, ◌&&◌, take, drop, eqb, ◌≡◌}
use Rattle.std.proofs.Math.Option.{some}
use Rattle.bus_rules.specs.Ident.{id_of, id_offset, id_from, id_table}
use Rattle.bus_rules.specs.Frames.{cmd, req, frame_with}
use Rattle.bus_rules.specs.Request.{request}
use Rattle.bus_rules.specs.declared.Frame.{Frame}
use Rattle.bridge_rules.specs.Opening.{is_write, ask_device, ask_table, ask_offset, ask_given}
use Rattle.bridge_rules.specs.Incoming.{content_number}
use Rattle.bridge_rules.specs.Call.{its_own, other, Call, opening, turn, frame, status, bytes, close, reset}
use Rattle.bridge_rules.specs.Run.{Run, state, answer, ledger, Transfer, slot_of, Resetting, Stands, chunks, len_of, accepted, turns}

-- ── "A standing write is done exactly when turns that served its slot since its opening have yielded its CMD for every
-- started eight bytes that it was given, in order." ──────────────────────────────────────────────────────────────────

-- the slot last served, by the bridge that event m hands back. (A CMD does not tell its slot, and two writes may send equal
-- ones, so the answers alone do not say whose a CMD is.)
abbrev pub last_served : Run → ℕ → ℕ
last_served r m = (state r (suc m)).last

-- chunk c of the bytes that a write or a checked write was given
abbrev pub given : (r : Run) → Transfer r → ℕ → List ℕ
given r x c = take (len_of r x c) (drop (8 * c) (ask_given x.ask))

-- the CMD for chunk c of the bytes that the write was given, from the bridge's own number at event j
unfoldable pub command_frame : (r : Run) → Transfer r → ℕ → ℕ → Frame
command_frame r x c j =
    frame_with (id_of (ask_offset x.ask + 8 * c) cmd (ledger r j).own (ask_device x.ask) (ask_table x.ask))
    (given r x c)

-- turn j, since the opening, SERVED the write's slot and yielded its CMD for chunk c
pub record Wrote (r : Run) (x : Transfer r) (c j : ℕ) : Type 0 where
  pub since : x.at < j
  pub turned : accepted r j ≡ true
  pub served : last_served r j ≡ slot_of r x
  pub yields : (answer r j).sent ≡ some (command_frame r x c j)

-- before event n, every chunk in order
pub record AllWritten (r : Run) (x : Transfer r) (n : ℕ) : Type 0 where
  pub j : ℕ → ℕ
  pub wrote : (c : ℕ) → c < chunks r x → Wrote r x c (j c)
  pub before : (c : ℕ) → c < chunks r x → j c < n
  pub order : (c : ℕ) → suc c < chunks r x → j c < j (suc c)

-- ── "A read's request for each eight bytes is sent by a turn that yields its REQ while the read stands; from each send
-- on, the standing read awaits its reply until a frame matches that neither 10 nor 1 to 5 refuses, or twenty turns have
-- followed." ─────────────────────────────────────────────────────────────────────────────────────────────────────────

-- the place of chunk c in the buffer, its reply offset
abbrev pub place : (r : Run) → Transfer r → ℕ → ℕ
place r x c = 128 * slot_of r x + 8 * c

-- the REQ for chunk c, from the bridge's own number at event j
unfoldable pub request_frame : (r : Run) → Transfer r → ℕ → ℕ → Frame
request_frame r x c j =
    frame_with (id_of (ask_offset x.ask + 8 * c) req (ledger r j).own (ask_device x.ask) (ask_table x.ask))
    (request 6 (place r x c) (len_of r x c))

-- the request for chunk c is SENT by turn j; "requests and replies of the reading back count there as a read's do", so the asker is a read
-- or a checked write
pub record Sent (r : Run) (x : Transfer r) (c j : ℕ) : Type 0 where
  pub stands : Stands r x j
  pub asks : is_write x.ask ≡ false
  pub chunk : c < chunks r x
  pub turned : accepted r j ≡ true
  pub yields : (answer r j).sent ≡ some (request_frame r x c j)

-- C-19: slot k RESTS after the first n calls: a request for it, and so its last one, "went out fewer than 60 turns ago", and no reset was
-- answered 0 since
pub record Resting (r : Run) (k n : ℕ) : Type 0 where
  pub y : Transfer r
  pub its : slot_of r y ≡ k
  pub c : ℕ
  pub j : ℕ
  pub sent : Sent r y c j
  pub before : j < n
  pub soon : turns r j n < 60
  pub kept : (q : ℕ) → j < q → q < n → ¬ Resetting r q

-- a frame that 1 to 5 do not refuse matches if its table is 6 and it has the device, reply offset and length of chunk c
unfoldable pub matches_frame : (r : Run) → Transfer r → ℕ → ℕ → Frame → Bool
matches_frame r x c m f =
    eqb (content_number (ledger r m).own f) 0 && eqb (id_table f.id) 6 && eqb (id_from f.id) (ask_device x.ask)
    && eqb (id_offset f.id) (place r x c) && eqb f.len (len_of r x c)

abbrev pub matches_call : (r : Run) → Transfer r → ℕ → ℕ → Call → Bool
matches_call r x c m (opening l a) = false
matches_call r x c m (turn l) = false
matches_call r x c m (frame its_own f) = matches_frame r x c m f
matches_call r x c m (frame (other l) f) = false
matches_call r x c m (status t) = false
matches_call r x c m (bytes l t) = false
matches_call r x c m (close t) = false
matches_call r x c m (reset o) = false

-- event m is a matching frame that neither 10 nor 1 to 5 refuses
abbrev pub Matches : (r : Run) → Transfer r → ℕ → ℕ → Type 0
Matches r x c m = matches_call r x c m (r.calls m) ≡ true

-- at event n the standing read AWAITS the reply to chunk c: it was sent at some j, and since then no frame matched and fewer than
-- twenty turns have followed
pub record Awaits (r : Run) (x : Transfer r) (c n : ℕ) : Type 0 where
  pub stands : Stands r x n
  pub j : ℕ
  pub before : j < n
  pub sent : Sent r x c j
  pub soon : turns r j n < 20
  pub unmatched : (m : ℕ) → j < m → m < n → ¬ Matches r x c m

-- event m is the matching reply, taken after this read sent its request
pub record Replied (r : Run) (x : Transfer r) (c m : ℕ) : Type 0 where
  pub awaits : Awaits r x c m
  pub matches : Matches r x c m

-- a send at j that twenty turns followed before n, and they brought no matching reply
pub record Failed (r : Run) (x : Transfer r) (c j n : ℕ) : Type 0 where
  pub sent : Sent r x c j
  pub late : 20 ≤ turns r j n
  pub unmatched : (m : ℕ) → j < m → turns r j m < 20 → ¬ Matches r x c m

-- "one of its requests was sent three times and each time twenty turns brought no matching reply"
pub record ThreeFailed (r : Run) (x : Transfer r) (n : ℕ) : Type 0 where
  pub c : ℕ
  pub j₁ : ℕ
  pub j₂ : ℕ
  pub j₃ : ℕ
  pub order₁ : j₁ < j₂
  pub order₂ : j₂ < j₃
  pub first : Failed r x c j₁ n
  pub second : Failed r x c j₂ n
  pub third : Failed r x c j₃ n
