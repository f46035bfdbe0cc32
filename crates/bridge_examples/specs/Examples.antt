-- Example runs beside demand 3: its premises hold of runs, and it says what they show; and without the premise on writes, a reload among them, on
-- the device's own replies, on late replies or on resets it would be false. Reads first, then checked writes.
use Rattle.std.specs.Prelude.{ℕ, zero, suc, ◌*◌, ◌-◌, ◌≤◌, ◌≡◌, ◌≢◌, List, [], ◌∷◌, ◌++◌, true, cond, replicate, ltb}
use Rattle.std.proofs.Math.Option.{some}
use Rattle.bus_rules.specs.Ident.{id_of}
use Rattle.bus_rules.specs.Frames.{cmd, req, rsp, burn, frame_with}
use Rattle.bus_rules.specs.Request.{request}
use Rattle.bus_rules.specs.Device.{Device, device, none_current, currently}
use Rattle.bus_rules.specs.Holder.{device_after, Gives}
use Rattle.bus_rules.specs.declared.Directory.{Directory}
use Rattle.bridge_rules.specs.State.{Frame}
use Rattle.bridge_rules.specs.Answers.{both, plain}
use Rattle.bridge_rules.specs.Opening.{read, write, check, is_check, ask_given}
use Rattle.bridge_rules.specs.Call.{Call, its_own, opening, turn, frame, status, close, reset}
use Rattle.bridge_rules.specs.Run.{Run, Lawful, Transfer, Stands, Done, status_at, shown_at, answer, answer_to}
use Rattle.bridge_rules.specs.Replies.{Replied}
use Rattle.bridge_rules.specs.Device.{Timeline, range, Arrives, Own, Prompt, Quiet, Arrivals, NotAfter, Meanwhile, Unwritten, Premises}
use Rattle.bridge_rules.specs.Demand3.{showing, run_of}

-- device 5: table 7 has 16 bytes, 100 to 115, table 8 so many, and all rights
unfoldable pub directory_with : (size : ℕ) → Directory
directory_with size = record {
  sizes = replicate 7 0 ++ 16 ∷ size ∷ replicate 23 0;
  rights = replicate 32 2;
  table_blocking = 256;
  write_blocking = 256;
  own = 5;
}

abbrev pub directory : Directory
directory = directory_with 0

unfoldable pub memory : List ℕ
memory = 100 ∷ 101 ∷ 102 ∷ 103 ∷ 104 ∷ 105 ∷ 106 ∷ 107 ∷ 108 ∷ 109 ∷ 110 ∷ 111 ∷ 112 ∷ 113 ∷ 114 ∷ 115 ∷ []

-- its bytes 0 to 7, and 8 to 15
abbrev pub lower : List ℕ
lower = 100 ∷ 101 ∷ 102 ∷ 103 ∷ 104 ∷ 105 ∷ 106 ∷ 107 ∷ []

abbrev pub upper : List ℕ
upper = 108 ∷ 109 ∷ 110 ∷ 111 ∷ 112 ∷ 113 ∷ 114 ∷ 115 ∷ []

-- it is of the newer family, table 7 is current, and its flash is 16 zeros
abbrev pub holding : Device
holding = device directory (currently 3 7) memory (replicate 16 0)

-- what becomes of a device by a CMD from bridge 0 that writes at an offset of table 7
unfoldable pub after : Device → (offset : ℕ) → List ℕ → Device
after d offset bs = device_after d (frame_with (id_of offset cmd 0 5 7) bs)

-- the run of bridge 0, from two buffers of zeros
abbrev pub run : List Call → Run
run cs = run_of 0 (both (replicate 512 0) (replicate 512 0)) cs

-- a reply to bridge 0 for a place in its buffer
unfoldable pub reply : (device place : ℕ) → List ℕ → Frame
reply device place bs = frame_with (id_of place rsp device 0 6) bs

-- a read, opened by call `at`, that is done after n calls and shows these bytes
pub record DoneRead (cs : List Call) (at n : ℕ) (bs : List ℕ) : Type 0 where
  pub lawful : Lawful (run cs)
  pub x : Transfer (run cs)
  pub opened : x.at ≡ at
  pub stands : Stands (run cs) x n
  pub done : Done (run cs) x n
  pub shown : shown_at (run cs) x n ≡ showing bs

-- one of which the premises of demand 3 hold from moment τ₀ on; the bytes are the range's at moment τ
pub record Shows (cs : List Call) (at n : ℕ) (bs : List ℕ) (t : Timeline) (τ₀ τ : ℕ) : Type 0 where
  pub reader : DoneRead cs at n bs
  pub premises : Premises (run cs) reader.x n t τ₀
  pub meanwhile : Meanwhile (run cs) reader.x n t τ₀ τ
  pub same : range (run cs) reader.x (t.device τ) ≡ bs

-- one that shows other bytes than its range's, bytes 8 to 15 of the table, though each reply is the device's own and nothing is written
pub record ShowsOther (cs : List Call) (at n : ℕ) (bs : List ℕ) (t : Timeline) (τ₀ : ℕ) : Type 0 where
  pub reader : DoneRead cs at n bs
  pub own : (m : ℕ) (f : Frame) → Arrives (run cs) reader.x n m f → Own (run cs) t m f
  pub first : NotAfter (run cs) reader.x n t τ₀
  pub unwritten : Unwritten (run cs) reader.x t (Meanwhile (run cs) reader.x n t τ₀)
  pub asked : (τ : ℕ) → range (run cs) reader.x (t.device τ) ≡ upper
  pub other : bs ≢ upper

-- events are one moment apart, a reply arrives when it is given, and it answers the request of the call that `asked` tells
abbrev pub answering : (asked : ℕ → ℕ) → (ℕ → Device) → Timeline
answering asked device = record { when = λ k. k; device = device; asked = asked; answered = λ m. m }

-- the call before the reply
abbrev pub before : ℕ → ℕ
before zero = zero
before (suc n) = n

abbrev pub on_time : (ℕ → Device) → Timeline
on_time = answering before

-- every reply answers the request of call 1
abbrev pub to_call_one : (ℕ → Device) → Timeline
to_call_one = answering (λ m. 1)

-- ── One asker, and a device that does not change ───────────────────────────────────────────────────────────────────

unfoldable pub alone : List Call
alone =
    opening its_own (read 5 7 6 10)
    ∷ turn its_own
    ∷ frame its_own (reply 5 0 (106 ∷ 107 ∷ 108 ∷ 109 ∷ 110 ∷ 111 ∷ 112 ∷ 113 ∷ []))
    ∷ turn its_own
    ∷ frame its_own (reply 5 8 (114 ∷ 115 ∷ []))
    ∷ []

-- events are two moments apart, and a reply arrives one moment after it is given
abbrev pub two_apart : (ℕ → Device) → Timeline
two_apart device = record { when = λ k. 2 * k; device = device; asked = before; answered = λ m. 2 * m - 1 }

abbrev pub unchanging : Timeline
unchanging = two_apart (λ τ. holding)

pub record AloneShows : Type 0 where
  pub shows : Shows alone 0 5 (106 ∷ 107 ∷ 108 ∷ 109 ∷ 110 ∷ 111 ∷ 112 ∷ 113 ∷ 114 ∷ 115 ∷ []) unchanging 3 5
  -- the first request is sent at moment 2 and answered at 3, and its reply arrives at 4
  pub asked : unchanging.when (unchanging.asked 2) ≡ 2
  pub answered : unchanging.answered 2 ≡ 3
  pub arrived : unchanging.when 2 ≡ 4

-- ── The same, and a burn between its two answers: no write of the range ────────────────────────────────────────────

-- 02, C-11: device 5 burns its table 7 at moment 4, asked by device 9
unfoldable pub burnt_table : Device
burnt_table = device_after holding (frame_with (id_of 0 burn 9 5 7) [])

abbrev pub burnt_between : Timeline
burnt_between = two_apart (λ τ. cond (ltb τ 4) holding burnt_table)

pub record BurntShows : Type 0 where
  pub shows : Shows alone 0 5 (106 ∷ 107 ∷ 108 ∷ 109 ∷ 110 ∷ 111 ∷ 112 ∷ 113 ∷ 114 ∷ 115 ∷ []) burnt_between 3 5
  -- it answers at moments 3 and 7; the burn was served: the flash has the table's bytes from then on
  pub answered : (burnt_between.answered 2 ≡ 3) × (burnt_between.answered 4 ≡ 7)
  pub earlier : (burnt_between.device 3).flash ≡ replicate 16 0
  pub later : (burnt_between.device 4).flash ≡ memory

-- ── 02, C-13, a device of the older family: the first request reloads the table, before the first answer ───────────

-- no table is current; working memory is 16 zeros, and the bytes 100 to 115 are in flash
abbrev pub older : Device
older = device directory (none_current 2) (replicate 16 0) memory

-- it answers the read's first request at moment 3
unfoldable pub reloaded : Device
reloaded = device_after older (frame_with (id_of 6 req 0 5 7) (request 6 0 8))

abbrev pub reloaded_first : Timeline
reloaded_first = two_apart (λ τ. cond (ltb τ 3) older reloaded)

-- the read shows flash's bytes
pub record ReloadedShows : Type 0 where
  pub shows : Shows alone 0 5 (106 ∷ 107 ∷ 108 ∷ 109 ∷ 110 ∷ 111 ∷ 112 ∷ 113 ∷ 114 ∷ 115 ∷ []) reloaded_first 3 5
  pub answered : reloaded_first.answered 2 ≡ 3
  -- the range held zeros when the request was sent
  pub earlier : range (run alone) shows.reader.x (reloaded_first.device 2) ≡ replicate 10 0

-- the same calls, and a device that stands still as it is before the reload: each reply is what the holder's rules give for it then, and the read shows bytes
-- that its range never held; so it is the device after its answer that is asked for
abbrev pub still_older : Timeline
still_older = two_apart (λ τ. older)

pub record StillOlderShows : Type 0 where
  pub reader : DoneRead alone 0 5 (106 ∷ 107 ∷ 108 ∷ 109 ∷ 110 ∷ 111 ∷ 112 ∷ 113 ∷ 114 ∷ 115 ∷ [])
  pub first_reply : Gives older (frame_with (id_of 6 req 0 5 7) (request 6 0 8)) (reply 5 0 (106 ∷ 107 ∷ 108 ∷ 109 ∷ 110 ∷ 111 ∷ 112 ∷ 113 ∷ []))
  pub second_reply : Gives older (frame_with (id_of 14 req 0 5 7) (request 6 8 2)) (reply 5 8 (114 ∷ 115 ∷ []))
  pub zeros : (τ : ℕ) → range (run alone) reader.x (still_older.device τ) ≡ replicate 10 0
  -- the premise that fails
  pub not_own : ¬ Own (run alone) still_older 2 (reply 5 0 (106 ∷ 107 ∷ 108 ∷ 109 ∷ 110 ∷ 111 ∷ 112 ∷ 113 ∷ []))

-- ── A lost reply, foreign frames, a second asker, and a write before and after ─────────────────────────────────────

unfoldable pub together : List Call
together =
    opening its_own (write 5 7 6 (1 ∷ 2 ∷ []))
    ∷ opening its_own (read 5 7 6 10)
    ∷ opening its_own (read 6 7 0 1)
    -- 3 sends the write's CMD, 4 the read's first REQ, whose reply is lost, 5 the other read's REQ
    ∷ turn its_own
    ∷ turn its_own
    ∷ turn its_own
    -- 6 is the other read's reply, 7 a frame of device 5 to bridge 3, 8 one of device 9 for this read's place
    ∷ frame its_own (reply 6 256 (77 ∷ []))
    ∷ frame its_own (frame_with (id_of 128 rsp 5 3 6) (replicate 8 9))
    ∷ frame its_own (reply 9 128 (replicate 8 9))
    -- 9 to 27 are turns, the last of which sends the read's first REQ again
    ∷ (replicate 19 (turn its_own)
    ++ frame its_own (reply 5 128 (1 ∷ 2 ∷ 108 ∷ 109 ∷ 110 ∷ 111 ∷ 112 ∷ 113 ∷ []))
    ∷ turn its_own
    ∷ frame its_own (reply 5 136 (114 ∷ 115 ∷ []))
    -- 32 sends the second write's CMD
    ∷ opening its_own (write 5 7 6 (3 ∷ 4 ∷ []))
    ∷ turn its_own
    ∷ [])

-- the device is written at moments 4 and 33, and answers the read's first REQ at moment 5
abbrev pub written : Timeline
written = on_time (λ τ. cond (ltb τ 4) holding (cond (ltb τ 33) once (after once 6 (3 ∷ 4 ∷ []))))
  where
    once : Device
    once = after holding 6 (1 ∷ 2 ∷ [])

pub record TogetherShows : Type 0 where
  pub shows : Shows together 1 33 (1 ∷ 2 ∷ 108 ∷ 109 ∷ 110 ∷ 111 ∷ 112 ∷ 113 ∷ 114 ∷ 115 ∷ []) written 5 29
  -- the range held other bytes before the first write and after the second
  pub earlier : range (run together) shows.reader.x (written.device 0) ≡ 106 ∷ 107 ∷ 108 ∷ 109 ∷ 110 ∷ 111 ∷ 112 ∷ 113 ∷ 114 ∷ 115 ∷ []
  pub later : range (run together) shows.reader.x (written.device 33) ≡ 3 ∷ 4 ∷ 108 ∷ 109 ∷ 110 ∷ 111 ∷ 112 ∷ 113 ∷ 114 ∷ 115 ∷ []
  -- the other read's reply is taken, and the foreign frames are refused
  pub other : (answer (run together) 6).number ≡ 0
  pub to_another : (answer (run together) 7).number ≡ 4
  pub from_another : (answer (run together) 8).number ≡ 17

-- ── A write that is done, and a reset ──────────────────────────────────────────────────────────────────────────────

-- after the reset the bridge is number 3
unfoldable pub restarted : List Call
restarted =
    opening its_own (write 5 7 6 (1 ∷ 2 ∷ []))
    ∷ turn its_own
    ∷ reset 3
    ∷ opening its_own (read 5 7 6 2)
    ∷ turn its_own
    ∷ frame its_own (frame_with (id_of 0 rsp 5 3 6) (1 ∷ 2 ∷ []))
    ∷ []

-- the device is written at moment 2
abbrev pub written_once : Timeline
written_once = on_time (λ τ. cond (ltb τ 2) holding (after holding 6 (1 ∷ 2 ∷ [])))

pub record RestartedShows : Type 0 where
  -- the write is done; the reset ends it, and the read gets its ticket
  pub sent : (answer_to (run restarted) 2 (status 1)).number ≡ 0
  pub forgotten : (answer_to (run restarted) 3 (status 1)).number ≡ 14
  pub again : (answer (run restarted) 3).ticket ≡ 1
  pub shows : Shows restarted 3 6 (1 ∷ 2 ∷ []) written_once 5 5

-- ── A write between two replies: why the range may not be written meanwhile ────────────────────────────────────────

-- the read's first eight bytes are fetched, then another asker writes bytes 12 to 15, then the read's last two bytes are fetched
unfoldable pub torn : List Call
torn =
    opening its_own (read 5 7 6 10)
    ∷ turn its_own
    ∷ frame its_own (reply 5 0 (106 ∷ 107 ∷ 108 ∷ 109 ∷ 110 ∷ 111 ∷ 112 ∷ 113 ∷ []))
    -- 4 sends the write's CMD, 5 the read's second REQ
    ∷ opening its_own (write 5 7 12 (1 ∷ 2 ∷ 3 ∷ 4 ∷ []))
    ∷ turn its_own
    ∷ turn its_own
    ∷ frame its_own (reply 5 8 (3 ∷ 4 ∷ []))
    ∷ []

-- the device is written at moment 5
abbrev pub overwritten : Timeline
overwritten = on_time (λ τ. cond (ltb τ 5) holding (after holding 12 (1 ∷ 2 ∷ 3 ∷ 4 ∷ [])))

-- each reply is the device's own and comes at once, and nothing is reset; yet the read shows bytes that the range never held
pub record TornShows : Type 0 where
  pub reader : DoneRead torn 0 7 (106 ∷ 107 ∷ 108 ∷ 109 ∷ 110 ∷ 111 ∷ 112 ∷ 113 ∷ 3 ∷ 4 ∷ [])
  pub arrivals : Arrivals (run torn) reader.x 7 overwritten
  pub first : NotAfter (run torn) reader.x 7 overwritten 2
  pub never : (τ : ℕ) →
      range (run torn) reader.x (overwritten.device τ) ≢ 106 ∷ 107 ∷ 108 ∷ 109 ∷ 110 ∷ 111 ∷ 112 ∷ 113 ∷ 3 ∷ 4 ∷ []
  -- the premise that fails
  pub rewritten : ¬ Unwritten (run torn) reader.x overwritten (Meanwhile (run torn) reader.x 7 overwritten 2)

-- ── It forgets between two answers: why "a reload after the device sent the read's first answer counts as a write" ──

-- 02, C-13: device 5 is of the older family, table 7 is current and not burnt, and table 8 has one byte; its flash is 17 zeros
unfoldable pub unburnt : Device
unburnt = device (directory_with 1) (currently 2 7) (memory ++ 55 ∷ []) (replicate 17 0)

-- device 9 asks for table 8 at moment 4, and the read's second request reloads table 7 at moment 7
unfoldable pub elsewhere : Device
elsewhere = device_after unburnt (frame_with (id_of 0 req 9 5 8) (request 6 0 1))

unfoldable pub table_forgotten : Device
table_forgotten = device_after elsewhere (frame_with (id_of 14 req 0 5 7) (request 6 8 2))

abbrev pub forgetting : Timeline
forgetting = two_apart (λ τ. cond (ltb τ 4) unburnt (cond (ltb τ 7) elsewhere table_forgotten))

unfoldable pub forgets : List Call
forgets =
    opening its_own (read 5 7 6 10)
    ∷ turn its_own
    ∷ frame its_own (reply 5 0 (106 ∷ 107 ∷ 108 ∷ 109 ∷ 110 ∷ 111 ∷ 112 ∷ 113 ∷ []))
    ∷ turn its_own
    ∷ frame its_own (reply 5 8 (0 ∷ 0 ∷ []))
    ∷ []

-- each reply is the device's own and comes at once, nobody writes, and nothing is reset; yet the read shows bytes that the range never held
pub record ForgetsShows : Type 0 where
  pub reader : DoneRead forgets 0 5 (106 ∷ 107 ∷ 108 ∷ 109 ∷ 110 ∷ 111 ∷ 112 ∷ 113 ∷ 0 ∷ 0 ∷ [])
  pub arrivals : Arrivals (run forgets) reader.x 5 forgetting
  pub first : NotAfter (run forgets) reader.x 5 forgetting 3
  pub never : (τ : ℕ) →
      range (run forgets) reader.x (forgetting.device τ) ≢ 106 ∷ 107 ∷ 108 ∷ 109 ∷ 110 ∷ 111 ∷ 112 ∷ 113 ∷ 0 ∷ 0 ∷ []
  -- the premise that fails: at moment 7 the reload made the range flash's zeros
  pub reloads : ¬ Unwritten (run forgets) reader.x forgetting (Meanwhile (run forgets) reader.x 5 forgetting 3)
  pub same : range (run forgets) reader.x (forgetting.device 4) ≡ range (run forgets) reader.x (forgetting.device 3)
  pub zeros : range (run forgets) reader.x (forgetting.device 7) ≡ replicate 10 0

-- ── A forged reply: why each reply under the device's number is to be its own ──────────────────────────────────────

-- the same calls, and a device that does not change: another node gives the second reply under its number
abbrev pub forged : List Call
forged = forgets

-- nothing is written or reset, each other reply is the device's own, and all come at once; yet the read shows other bytes
pub record ForgedShows : Type 0 where
  pub reader : DoneRead forged 0 5 (106 ∷ 107 ∷ 108 ∷ 109 ∷ 110 ∷ 111 ∷ 112 ∷ 113 ∷ 0 ∷ 0 ∷ [])
  pub own : (m : ℕ) (f : Frame) → m ≢ 4 → Arrives (run forged) reader.x 5 m f → Own (run forged) unchanging m f
  pub prompt : Prompt (run forged) reader.x 5 unchanging
  pub quiet : Quiet (run forged) 5
  pub first : NotAfter (run forged) reader.x 5 unchanging 3
  pub unwritten : Unwritten (run forged) reader.x unchanging (Meanwhile (run forged) reader.x 5 unchanging 3)
  pub asked : range (run forged) reader.x holding ≡ 106 ∷ 107 ∷ 108 ∷ 109 ∷ 110 ∷ 111 ∷ 112 ∷ 113 ∷ 114 ∷ 115 ∷ []
  -- the premise that fails: the holder's rules give other bytes
  pub forgery : ¬ Own (run forged) unchanging 4 (reply 5 8 (0 ∷ 0 ∷ []))

-- ── A late reply to a closed read: the slot rests, so the next read does not take it ───────────────────────────────

-- a read of bytes 0 to 7, whose REQ call 1 sends, is closed; then these calls
abbrev pub closed_read : List Call → List Call
closed_read cs = opening its_own (read 5 7 0 8) ∷ turn its_own ∷ close 1 ∷ cs

-- the second read asks for bytes 8 to 15, 4 sends its REQ; then the device's reply to the first arrives, and its reply to the second
unfoldable pub late : List Call
late = closed_read (
    opening its_own (read 5 7 8 8)
    ∷ turn its_own
    ∷ frame its_own (reply 5 0 lower)
    ∷ frame its_own (reply 5 128 upper)
    ∷ [])

-- 5 answers the request of call 1, 6 that of call 4
abbrev pub late_then_own : Timeline
late_then_own = answering (λ m. cond (ltb m 6) 1 4) (λ τ. holding)

-- the three other slots are held by writes
abbrev pub crowd : List Call
crowd = closed_read (replicate 3 (opening its_own (write 5 7 0 (1 ∷ []))))

-- "A slot whose last request went out fewer than 60 turns ago is not given to a new transfer."
pub record LateShows : Type 0 where
  pub shows : Shows late 3 7 upper late_then_own 5 6
  -- the second read has slot 1, whose bytes begin at 128, and the first one's reply is refused
  pub slot : (answer (run late) 4).sent ≡ some (frame_with (id_of 8 req 0 5 7) (request 6 128 8))
  pub seventeen : (answer (run late) 5).number ≡ 17
  -- slot 0 is free but rests: "19 in 12's place where slots are free but all resting"
  pub crowded : (answer_to (run crowd) 6 (opening its_own (read 5 7 8 8))).number ≡ 19

-- ── A reply after 60 turns: why "every reply arrives before the 60th turn after its request was sent, or never" ────

-- 60 turns later the second read gets slot 0, 64 sends its REQ, the 61st turn after the first one's; then the reply to that arrives
unfoldable pub too_late : List Call
too_late = closed_read (replicate 60 (turn its_own) ++ opening its_own (read 5 7 8 8) ∷ turn its_own ∷ frame its_own (reply 5 0 lower) ∷ [])

-- a reply answers the first read's request
abbrev pub slow : Timeline
slow = to_call_one (λ τ. holding)

-- the second read is done and shows the first one's bytes
pub record TooLateShows : Type 0 where
  pub shows : ShowsOther too_late 63 66 lower slow 65
  pub quiet : Quiet (run too_late) 66
  -- the premise that fails
  pub not_prompt : ¬ Prompt (run too_late) shows.reader.x 66 slow

-- ── A hasty reset: why "no request in the last 60 turns before a reset" ────────────────────────────────────────────

-- 58 turns follow the closed read's REQ, then a reset, and the second read gets slot 0 at once; 63 sends its REQ, the 59th turn after the first
-- one's; then the reply to that arrives
unfoldable pub hasty : List Call
hasty = closed_read (replicate 58 (turn its_own)
    ++ reset 0
    ∷ opening its_own (read 5 7 8 8)
    ∷ turn its_own
    ∷ frame its_own (reply 5 0 lower)
    ∷ [])

-- the reply comes before the 60th turn; yet the second read is done and shows the first one's bytes
pub record HastyShows : Type 0 where
  pub shows : ShowsOther hasty 62 65 lower slow 64
  pub prompt : Prompt (run hasty) shows.reader.x 65 slow
  -- the premise that fails
  pub not_quiet : ¬ Quiet (run hasty) 65

-- ── Checked writes ─────────────────────────────────────────────────────────────────────────────────────────────────

-- one of these bytes, opened by call `at`, what status answers after n calls, and that it shows no bytes
pub record CheckedWrite (cs : List Call) (at n : ℕ) (bs : List ℕ) (number : ℕ) : Type 0 where
  pub lawful : Lawful (run cs)
  pub x : Transfer (run cs)
  pub opened : x.at ≡ at
  pub checks : is_check x.ask ≡ true
  pub given : ask_given x.ask ≡ bs
  pub stands : Stands (run cs) x n
  pub answers : status_at (run cs) x n ≡ number
  pub shown : shown_at (run cs) x n ≡ plain number

abbrev pub eight : List ℕ
eight = 1 ∷ 2 ∷ 3 ∷ 4 ∷ 5 ∷ 6 ∷ 7 ∷ 8 ∷ []

abbrev pub ten : List ℕ
ten = eight ++ 9 ∷ 10 ∷ []

-- 1 and 2 send its CMDs, 3 and 5 its REQs; the first reply brings what was sent, the second these two bytes
unfoldable pub reading_back : (a b : ℕ) → List Call
reading_back a b =
    opening its_own (check 5 7 6 ten)
    ∷ turn its_own
    ∷ turn its_own
    ∷ turn its_own
    ∷ frame its_own (reply 5 0 eight)
    ∷ turn its_own
    ∷ frame its_own (reply 5 8 (a ∷ b ∷ []))
    ∷ []

-- ── Done: the device's range is what was given ─────────────────────────────────────────────────────────────────────

-- the device is written at moments 2 and 3
abbrev pub stored : Timeline
stored = on_time (λ τ. cond (ltb τ 2) holding (cond (ltb τ 3) (after holding 6 eight) (after (after holding 6 eight) 14 (9 ∷ 10 ∷ []))))

pub record StoredShows : Type 0 where
  pub checker : CheckedWrite (reading_back 9 10) 0 7 ten 0
  pub premises : Premises (run (reading_back 9 10)) checker.x 7 stored 4
  pub meanwhile : Meanwhile (run (reading_back 9 10)) checker.x 7 stored 4 5
  pub same : range (run (reading_back 9 10)) checker.x (stored.device 5) ≡ ten
  -- it held other bytes before
  pub earlier : range (run (reading_back 9 10)) checker.x (stored.device 0) ≡ 106 ∷ 107 ∷ 108 ∷ 109 ∷ 110 ∷ 111 ∷ 112 ∷ 113 ∷ 114 ∷ 115 ∷ []

-- ── The unplugged box: given up, never done ────────────────────────────────────────────────────────────────────────

unfoldable pub unplugged : List Call
unplugged = opening its_own (check 5 7 6 ten) ∷ replicate 64 (turn its_own)

pub record UnpluggedShows : Type 0 where
  pub checker : CheckedWrite unplugged 0 64 ten 16
  pub never : (n : ℕ) → n ≤ 64 → ¬ Done (run unplugged) checker.x n
  -- a write is done there, for "done write means sent, no more"
  pub written : (answer_to (run (opening its_own (write 5 7 6 ten) ∷ replicate 2 (turn its_own))) 3 (status 1)).number ≡ 0

-- ── A device that drops one CMD: different, and its range is not what was given ────────────────────────────────────

-- it takes the first CMD, at moment 2, and drops the second
abbrev pub dropped : Timeline
dropped = on_time (λ τ. cond (ltb τ 2) holding (after holding 6 eight))

pub record DroppedShows : Type 0 where
  pub checker : CheckedWrite (reading_back 114 115) 0 7 ten 18
  pub premises : Premises (run (reading_back 114 115)) checker.x 7 dropped 4
  -- its second reply is given at moment 6
  pub replied : Replied (run (reading_back 114 115)) checker.x 1 6
  pub other : range (run (reading_back 114 115)) checker.x (dropped.device 6) ≡ eight ++ 114 ∷ 115 ∷ []

-- ── A reply after 60 turns, for a checked write in the same slot ───────────────────────────────────────────────────

-- 60 turns later a checked write of bytes 8 to 15 gets slot 0: 64 sends its CMD, 65 its REQ; then a reply of these eight bytes arrives
unfoldable pub after_closing : List ℕ → List Call
after_closing bs = closed_read (
    replicate 60 (turn its_own)
    ++ opening its_own (check 5 7 8 eight)
    ∷ turn its_own
    ∷ turn its_own
    ∷ frame its_own (record { id = id_of 0 rsp 5 0 6; len = 8; bytes = bs })
    ∷ [])

-- the reply answers the checked write's request; the device took its CMD at moment 65
abbrev pub at_once : Timeline
at_once = on_time (λ τ. cond (ltb τ 65) holding (after holding 8 eight))

-- it answers the closed read's; the device holds these very bytes there, and drops the CMD
abbrev pub late_equal : Timeline
late_equal = to_call_one (λ τ. after holding 0 eight)

-- the same calls, by which it is done, in both: with the premise the range is what was given, without it it is other
pub record LateEqualShows : Type 0 where
  pub checker : CheckedWrite (after_closing eight) 63 67 eight 0
  pub premises : Premises (run (after_closing eight)) checker.x 67 at_once 66
  pub meanwhile : Meanwhile (run (after_closing eight)) checker.x 67 at_once 66 66
  pub same : range (run (after_closing eight)) checker.x (at_once.device 66) ≡ eight
  pub own : (m : ℕ) (f : Frame) → Arrives (run (after_closing eight)) checker.x 67 m f → Own (run (after_closing eight)) late_equal m f
  pub first : NotAfter (run (after_closing eight)) checker.x 67 late_equal 66
  pub unwritten : Unwritten (run (after_closing eight)) checker.x late_equal (Meanwhile (run (after_closing eight)) checker.x 67 late_equal 66)
  pub other : range (run (after_closing eight)) checker.x (late_equal.device 66) ≡ upper
  -- the premise that fails
  pub not_prompt : ¬ Prompt (run (after_closing eight)) checker.x 67 late_equal

-- a reply to the closed read; the device took the CMD at moment 65
abbrev pub late_other : Timeline
late_other = to_call_one at_once.device

-- different, though the range is what was given when the device answered
pub record LateOtherShows : Type 0 where
  pub checker : CheckedWrite (after_closing lower) 63 67 eight 18
  pub own : (m : ℕ) (f : Frame) → Arrives (run (after_closing lower)) checker.x 67 m f → Own (run (after_closing lower)) late_other m f
  pub quiet : Quiet (run (after_closing lower)) 67
  pub replied : Replied (run (after_closing lower)) checker.x 0 66
  pub same : range (run (after_closing lower)) checker.x (late_other.device 66) ≡ eight
  -- the premise that fails
  pub not_prompt : ¬ Prompt (run (after_closing lower)) checker.x 67 late_other

-- ── A hasty reset of a checked write, and a read in the same slot ──────────────────────────────────────────────────

-- the checked write is of bytes 0 to 7, 2 sends its REQ, and a reset follows; the read asks for bytes 8 to 15; then the reply to the checked
-- write arrives
unfoldable pub reset_check : List Call
reset_check =
    opening its_own (check 5 7 0 eight)
    ∷ turn its_own
    ∷ turn its_own
    ∷ reset 0
    ∷ opening its_own (read 5 7 8 8)
    ∷ turn its_own
    ∷ frame its_own (reply 5 0 eight)
    ∷ []

abbrev pub late_checked : Timeline
late_checked = answering (λ m. 2) (λ τ. after holding 0 eight)

-- the read is done and shows the checked write's bytes: "requests and replies of the reading back count there as a read's do"
pub record LateCheckShows : Type 0 where
  pub shows : ShowsOther reset_check 4 7 eight late_checked 6
  pub prompt : Prompt (run reset_check) shows.reader.x 7 late_checked
  -- the premise that fails
  pub not_quiet : ¬ Quiet (run reset_check) 7

-- all of it
pub record Examples : Type 0 where
  pub alone_shows : AloneShows
  pub burnt_shows : BurntShows
  pub reloaded_shows : ReloadedShows
  pub still_older_shows : StillOlderShows
  pub together_shows : TogetherShows
  pub restarted_shows : RestartedShows
  pub torn_shows : TornShows
  pub forgets_shows : ForgetsShows
  pub forged_shows : ForgedShows
  pub late_shows : LateShows
  pub too_late_shows : TooLateShows
  pub hasty_shows : HastyShows
  pub stored_shows : StoredShows
  pub unplugged_shows : UnpluggedShows
  pub dropped_shows : DroppedShows
  pub late_equal_shows : LateEqualShows
  pub late_other_shows : LateOtherShows
  pub late_check_shows : LateCheckShows
