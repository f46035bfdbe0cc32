-- Examples, which compute: 01's reckonings of the bridge that are not marked *, short runs, states one number away from a sound one, an
-- opening's numbers in their order, and calls lent a buffer that is too short. Some fields say in short what a longer one says too, so that
-- a wrong definition shows in a line.
use Rattle.std.specs.Prelude.{ℕ, zero, suc, ◌+◌, ◌≡◌, List, [], ◌∷◌, ◌++◌, map, Bool, true, false, cond, replicate, take, drop, leb}
use Rattle.std.proofs.Math.Option.{Option, none, some}
use Rattle.bus_rules.specs.Ident.{id_of}
use Rattle.bus_rules.specs.Frames.{cmd, req, rsp, frame_with}
use Rattle.bus_rules.specs.Request.{request}
use Rattle.bridge_rules.specs.State.{Frame, Bridge, Slot, free, ready, waiting, done, gave_up, different, reads, writes, checks, reads_back}
use Rattle.bridge_rules.specs.State.{blank, slot, moved, sound}
use Rattle.bridge_rules.specs.Answers.{Buffers, Result, both, plain}
use Rattle.bridge_rules.specs.Opening.{Ask, read, write, check}
use Rattle.bridge_rules.specs.Call.{Call, Lent, its_own, other, opening, turn, frame, status, bytes, close, reset, step}
use Rattle.bridge_rules.specs.Run.{Run, state, buffers, answer, answer_to, is_turn, turns_each, Entry, ledger, first_givable}
use Rattle.bridge_rules.specs.Demand3.{run_of, showing}

-- 512 bytes of 255, and of 254
abbrev pub start : Buffers
start = both (replicate 512 255) (replicate 512 254)

-- the run of bridge 0 from there
abbrev pub run : List Call → Run
run cs = run_of 0 start cs

-- a reply to bridge 0 for a place in its buffer
unfoldable pub reply : (device place : ℕ) → List ℕ → Frame
reply device place bs = frame_with (id_of place rsp device 0 6) bs

-- what the first n calls answer: their numbers, the events that yielded a frame, and the frames
unfoldable pub numbers_of : Run → ℕ → List ℕ
numbers_of r zero = []
numbers_of r (suc n) = numbers_of r n ++ (answer r n).number ∷ []

abbrev pub yielded : {A : Type 0} → Option Frame → (Frame → A) → List A
yielded none g = []
yielded (some f) g = g f ∷ []

unfoldable pub sends_of : Run → ℕ → List ℕ
sends_of r zero = []
sends_of r (suc n) = sends_of r n ++ yielded (answer r n).sent (λ f. n)

unfoldable pub frames_of : Run → ℕ → List Frame
frames_of r zero = []
frames_of r (suc n) = frames_of r n ++ yielded (answer r n).sent (λ f. f)

-- what status answers to ticket 1 after each of the first n calls
unfoldable pub statuses_of : Run → ℕ → List ℕ
statuses_of r zero = []
statuses_of r (suc n) = statuses_of r n ++ (answer_to r (suc n) (status 1)).number ∷ []

-- ── A silent device, alone ─────────────────────────────────────────────────────────────────────────────────────────

-- event k is turn k
unfoldable pub silence : List Call
silence = opening its_own (read 5 7 6 10) ∷ replicate 62 (turn its_own)

pub record Unstarred : Type 0 where
  -- silent device, alone: sends on turns 1, 21, 41; gives up on turn 61, and has still given up after turn 62
  pub sends : sends_of (run silence) 63 ≡ 1 ∷ 21 ∷ 41 ∷ []
  pub not_yet : (answer_to (run silence) 61 (status 1)).number ≡ 15
  pub given_up : (answer_to (run silence) 62 (status 1)).number ≡ 16
  pub stays : (answer_to (run silence) 63 (status 1)).number ≡ 16
  -- 128 bytes accepted, 129 and 0 are 9
  pub most : (answer_to (run []) 0 (opening its_own (read 5 7 0 128))).number ≡ 0
  pub too_many : (answer_to (run []) 0 (opening its_own (read 5 7 0 129))).number ≡ 9
  pub none : (answer_to (run []) 0 (opening its_own (read 5 7 0 0))).number ≡ 9

-- ── Ten bytes fetched, and one ─────────────────────────────────────────────────────────────────────────────────────

unfoldable pub fetching : List Call
fetching =
    opening its_own (read 5 7 6 10)
    ∷ turn its_own
    -- of another device, another length, another place
    ∷ frame its_own (reply 9 0 (replicate 8 9))
    ∷ frame its_own (reply 5 0 (replicate 7 9))
    ∷ frame its_own (reply 5 8 (replicate 8 9))
    ∷ frame its_own (reply 5 0 (106 ∷ 107 ∷ 108 ∷ 109 ∷ 110 ∷ 111 ∷ 112 ∷ 113 ∷ []))
    ∷ status 1
    ∷ turn its_own
    ∷ frame its_own (reply 5 8 (114 ∷ 115 ∷ []))
    ∷ status 1
    -- a second read, of one byte, gets slot 1
    ∷ opening its_own (read 5 7 0 1)
    ∷ turn its_own
    ∷ frame its_own (reply 5 128 (100 ∷ []))
    ∷ []

pub record Fetched : Type 0 where
  pub numbers : numbers_of (run fetching) 13 ≡ 0 ∷ 0 ∷ 17 ∷ 17 ∷ 17 ∷ 0 ∷ 15 ∷ 0 ∷ 0 ∷ 0 ∷ 0 ∷ 0 ∷ 0 ∷ []
  pub requests : frames_of (run fetching) 13
      ≡ frame_with 0x1882B8 (6 ∷ 0 ∷ 8 ∷ []) ∷ frame_with 0x3882B8 (6 ∷ 1 ∷ 2 ∷ []) ∷ frame_with (id_of 0 req 0 5 7) (request 6 128 1) ∷ []
  -- what is refused stores nothing
  pub kept : take 12 (buffers (run fetching) 5).first ≡ replicate 12 255
  -- it shows nothing until it is done, and the last reply stores two bytes and no more
  pub hidden : answer_to (run fetching) 6 (bytes its_own 1) ≡ plain 15
  pub shown : answer_to (run fetching) 10 (bytes its_own 1)
      ≡ showing (106 ∷ 107 ∷ 108 ∷ 109 ∷ 110 ∷ 111 ∷ 112 ∷ 113 ∷ 114 ∷ 115 ∷ [])
  pub stored : take 12 (buffers (run fetching) 10).first
      ≡ 106 ∷ 107 ∷ 108 ∷ 109 ∷ 110 ∷ 111 ∷ 112 ∷ 113 ∷ 114 ∷ 115 ∷ 255 ∷ 255 ∷ []
  pub beside : answer_to (run fetching) 13 (bytes its_own 2) ≡ showing (100 ∷ [])

-- ── Four writes by turns ───────────────────────────────────────────────────────────────────────────────────────────

unfoldable pub taking : List Call
taking =
    opening its_own (write 5 7 6 (1 ∷ 2 ∷ 3 ∷ 4 ∷ 5 ∷ 6 ∷ 7 ∷ 8 ∷ 9 ∷ 10 ∷ []))
    ∷ opening its_own (write 5 7 0 (11 ∷ 12 ∷ 13 ∷ 14 ∷ 15 ∷ 16 ∷ 17 ∷ 18 ∷ 19 ∷ 20 ∷ []))
    -- the fifth turn finds nothing to send, and the search goes on after slot 1
    ∷ (replicate 5 (turn its_own)
    ++ opening its_own (write 5 7 2 (21 ∷ []))
    ∷ opening its_own (write 5 7 3 (22 ∷ []))
    ∷ turn its_own
    ∷ turn its_own
    ∷ [])

pub record ByTurns : Type 0 where
  pub commands : frames_of (run taking) 11
      ≡ frame_with (id_of 6 cmd 0 5 7) (1 ∷ 2 ∷ 3 ∷ 4 ∷ 5 ∷ 6 ∷ 7 ∷ 8 ∷ [])
      ∷ frame_with (id_of 0 cmd 0 5 7) (11 ∷ 12 ∷ 13 ∷ 14 ∷ 15 ∷ 16 ∷ 17 ∷ 18 ∷ [])
      ∷ frame_with (id_of 14 cmd 0 5 7) (9 ∷ 10 ∷ [])
      ∷ frame_with (id_of 8 cmd 0 5 7) (19 ∷ 20 ∷ [])
      ∷ frame_with (id_of 2 cmd 0 5 7) (21 ∷ [])
      ∷ frame_with (id_of 3 cmd 0 5 7) (22 ∷ [])
      ∷ []

-- ── A checked write, alone ─────────────────────────────────────────────────────────────────────────────────────────

abbrev pub ten : List ℕ
ten = 1 ∷ 2 ∷ 3 ∷ 4 ∷ 5 ∷ 6 ∷ 7 ∷ 8 ∷ 9 ∷ 10 ∷ []

abbrev pub eight : List ℕ
eight = take 8 ten

-- it "sends the write, then reads the same range back": 1 and 2 send its CMDs, 3 and 5 its REQs
unfoldable pub reading_back : List Call
reading_back =
    opening its_own (check 5 7 6 ten)
    ∷ turn its_own
    ∷ turn its_own
    ∷ turn its_own
    ∷ frame its_own (reply 5 0 eight)
    ∷ turn its_own
    -- two bytes; those past the length are ignored
    ∷ frame its_own (record { id = id_of 8 rsp 5 0 6; len = 2; bytes = 9 ∷ 10 ∷ replicate 6 77 })
    ∷ turn its_own
    ∷ []

pub record Checked : Type 0 where
  -- "opening copies only into a second lent buffer"
  pub kept : take 12 (buffers (run reading_back) 1).first ≡ replicate 12 255
  pub copied : take 12 (buffers (run reading_back) 1).second ≡ ten ++ 254 ∷ 254 ∷ []
  -- not finished until the last reply is taken, then done
  pub statuses : statuses_of (run reading_back) 8 ≡ 15 ∷ 15 ∷ 15 ∷ 15 ∷ 15 ∷ 15 ∷ 0 ∷ 0 ∷ []
  pub sends : sends_of (run reading_back) 8 ≡ 1 ∷ 2 ∷ 3 ∷ 5 ∷ []
  pub frames : frames_of (run reading_back) 8
      ≡ frame_with (id_of 6 cmd 0 5 7) eight
      ∷ frame_with (id_of 14 cmd 0 5 7) (9 ∷ 10 ∷ [])
      ∷ frame_with 0x1882B8 (6 ∷ 0 ∷ 8 ∷ [])
      ∷ frame_with 0x3882B8 (6 ∷ 1 ∷ 2 ∷ [])
      ∷ []
  pub numbers : numbers_of (run reading_back) 8 ≡ replicate 8 0
  -- what came back equal is stored in the first
  pub stored : take 12 (buffers (run reading_back) 8).first ≡ ten ++ 255 ∷ 255 ∷ []
  -- no other byte is changed
  pub opened : buffers (run reading_back) 1 ≡ both (replicate 512 255) (ten ++ replicate 502 254)
  pub ended : buffers (run reading_back) 8 ≡ both (ten ++ replicate 502 255) (ten ++ replicate 502 254)
  -- "It shows no bytes"
  pub hidden : answer_to (run reading_back) 6 (bytes its_own 1) ≡ plain 15
  pub shown : answer_to (run reading_back) 7 (bytes its_own 1) ≡ plain 0

-- an unplugged box: event k is turn k
unfoldable pub unplugged : List Call
unplugged = opening its_own (check 5 7 6 ten) ∷ replicate 64 (turn its_own)

-- CMDs on turns 1 and 2, REQs on 3, 23, 43; it gives up on turn 63, and is never done
pub record Unplugged : Type 0 where
  pub sends : sends_of (run unplugged) 65 ≡ 1 ∷ 2 ∷ 3 ∷ 23 ∷ 43 ∷ []
  pub statuses : statuses_of (run unplugged) 65 ≡ replicate 63 15 ++ 16 ∷ 16 ∷ []
  pub kept : buffers (run unplugged) 65 ≡ both (replicate 512 255) (ten ++ replicate 502 254)
  pub shown : answer_to (run unplugged) 65 (bytes its_own 1) ≡ plain 16

-- a device that drops the second CMD: its old bytes there, 9 and 115, differ in the second alone. What it replies after that is 17
unfoldable pub dropping : List Call
dropping =
    opening its_own (check 5 7 6 ten)
    ∷ turn its_own
    ∷ turn its_own
    ∷ turn its_own
    ∷ frame its_own (reply 5 0 eight)
    ∷ turn its_own
    ∷ frame its_own (reply 5 8 (9 ∷ 115 ∷ []))
    ∷ frame its_own (reply 5 8 (9 ∷ 10 ∷ []))
    ∷ frame its_own (reply 5 0 eight)
    ∷ replicate 21 (turn its_own)

-- it "ends as different at the first reply that disagrees; that frame is answered 0 and not stored"
pub record Dropped : Type 0 where
  pub eighteen : (answer_to (run dropping) 7 (status 1)).number ≡ 18
  pub statuses : statuses_of (run dropping) 9 ≡ 15 ∷ 15 ∷ 15 ∷ 15 ∷ 15 ∷ 15 ∷ 18 ∷ 18 ∷ 18 ∷ []
  pub numbers : numbers_of (run dropping) 9 ≡ 0 ∷ 0 ∷ 0 ∷ 0 ∷ 0 ∷ 0 ∷ 0 ∷ 17 ∷ 17 ∷ []
  -- nothing more is sent for it
  pub sends : sends_of (run dropping) 30 ≡ 1 ∷ 2 ∷ 3 ∷ 5 ∷ []
  pub not_stored : take 12 (buffers (run dropping) 7).first ≡ eight ++ replicate 4 255
  pub stored : buffers (run dropping) 30 ≡ both (eight ++ replicate 504 255) (ten ++ replicate 502 254)
  pub ended : slot (state (run dropping) 30) 0 ≡ record {
    ticket = 1;
    offset = 6;
    phase = different;
    kind = reads_back;
    device = 5;
    table = 7;
    count = 10;
    progress = 8;
    sends = 0;
    left = 0;
  }
  pub shown : answer_to (run dropping) 30 (bytes its_own 1) ≡ plain 18

-- ── A slow read and a slow checked write of one byte ───────────────────────────────────────────────────────────────

abbrev pub three_writes : List ℕ → List Call
three_writes bs = replicate 3 (opening its_own (write 5 7 0 bs))

-- while slot 3 waits the others are still; then three writes, opened in place of those of tickets t on, come before its next send
unfoldable pub held_up : (t : ℕ) → List Call
held_up t =
    replicate 19 (turn its_own) ++ close t ∷ close (suc t) ∷ close (suc (suc t)) ∷ three_writes eight ++ replicate 4 (turn its_own)

-- ticket 4, in slot 3: event 3 opens it, its first request is sent by the nth turn, and no reply comes
unfoldable pub slowly : List ℕ → Ask → (n : ℕ) → List Call
slowly bs a n = three_writes bs ++ opening its_own a ∷ replicate n (turn its_own) ++ held_up 1 ++ held_up 5 ++ replicate 20 (turn its_own)

abbrev pub read_slowly : List Call
read_slowly = slowly eight (read 5 7 0 1) 4

abbrev pub check_slowly : List Call
check_slowly = slowly (take 16 (ten ++ ten)) (check 5 7 0 (1 ∷ [])) 8

-- how many of these calls are turns; with the bridge's own buffers each is accepted
unfoldable pub turns_among : List Call → ℕ
turns_among [] = 0
turns_among (c ∷ cs) = cond (is_turn c) 1 0 + turns_among cs

-- 69 turns do not end it, so it is not claimed that they do; one turn more, and it has given up
pub record SlowRead : Type 0 where
  pub bound : leb (turns_each (read 5 7 0 1)) 69 ≡ false
  pub elapsed : turns_among (drop 4 (take 85 read_slowly)) ≡ 69
  pub unfinished : (answer_to (run read_slowly) 85 (status 4)).number ≡ 15
  pub given_up : (answer_to (run read_slowly) 86 (status 4)).number ≡ 16

-- 73 do not
pub record SlowCheck : Type 0 where
  pub bound : leb (turns_each (check 5 7 0 (1 ∷ []))) 73 ≡ false
  pub elapsed : turns_among (drop 4 (take 89 check_slowly)) ≡ 73
  pub unfinished : (answer_to (run check_slowly) 89 (status 4)).number ≡ 15
  pub given_up : (answer_to (run check_slowly) 90 (status 4)).number ≡ 16

-- ── A checked write between a write and a read ─────────────────────────────────────────────────────────────────────

-- 3 and 4 send the CMDs of tickets 1 and 2, 5 and 6 the REQs of tickets 3 and 2
unfoldable pub three_kinds : List Call
three_kinds =
    opening its_own (write 5 7 0 (21 ∷ 22 ∷ []))
    ∷ opening its_own (check 5 7 6 (1 ∷ 2 ∷ []))
    ∷ opening its_own (read 5 7 12 2)
    ∷ turn its_own
    ∷ turn its_own
    ∷ turn its_own
    ∷ turn its_own
    ∷ frame its_own (reply 5 256 (112 ∷ 113 ∷ []))
    ∷ frame its_own (reply 5 128 (1 ∷ 2 ∷ []))
    ∷ []

pub record OwnBuffers : Type 0 where
  -- the write's bytes lie in the first buffer, the checked write's in the second, each in its slot's 128
  pub first : take 2 (buffers (run three_kinds) 3).first ≡ 21 ∷ 22 ∷ []
  pub slot_zero : take 2 (buffers (run three_kinds) 3).second ≡ 254 ∷ 254 ∷ []
  pub slot_one : take 2 (drop 128 (buffers (run three_kinds) 3).second) ≡ 1 ∷ 2 ∷ []
  pub copied : buffers (run three_kinds) 7
      ≡ both (21 ∷ 22 ∷ replicate 510 255) (replicate 128 254 ++ 1 ∷ 2 ∷ replicate 382 254)
  pub frames : frames_of (run three_kinds) 9
      ≡ frame_with (id_of 0 cmd 0 5 7) (21 ∷ 22 ∷ [])
      ∷ frame_with (id_of 6 cmd 0 5 7) (1 ∷ 2 ∷ [])
      ∷ frame_with (id_of 12 req 0 5 7) (request 6 256 2)
      ∷ frame_with (id_of 6 req 0 5 7) (request 6 128 2)
      ∷ []
  pub stored : buffers (run three_kinds) 9
      ≡ both (21 ∷ 22 ∷ replicate 126 255 ++ 1 ∷ 2 ∷ replicate 126 255 ++ 112 ∷ 113 ∷ replicate 254 255)
      (replicate 128 254 ++ 1 ∷ 2 ∷ replicate 382 254)
  -- all three are done, and the read alone shows bytes
  pub written : answer_to (run three_kinds) 9 (bytes its_own 1) ≡ plain 0
  pub checked : answer_to (run three_kinds) 9 (bytes its_own 2) ≡ plain 0
  pub shown : answer_to (run three_kinds) 9 (bytes its_own 3) ≡ showing (112 ∷ 113 ∷ [])

-- ── A closing, and a reset ─────────────────────────────────────────────────────────────────────────────────────────

unfoldable pub closing : List Call
closing =
    opening its_own (read 5 7 0 8)
    ∷ opening its_own (read 5 7 8 8)
    ∷ opening its_own (read 6 7 0 8)
    ∷ close 2
    ∷ status 1
    ∷ status 2
    ∷ status 3
    -- it gets ticket 4 and the freed slot
    ∷ opening its_own (read 5 7 16 8)
    ∷ turn its_own
    ∷ turn its_own
    ∷ reset 3
    ∷ status 1
    ∷ opening its_own (read 5 7 16 8)
    ∷ turn its_own
    ∷ []

pub record Ended : Type 0 where
  pub numbers : numbers_of (run closing) 12 ≡ 0 ∷ 0 ∷ 0 ∷ 0 ∷ 15 ∷ 14 ∷ 15 ∷ 0 ∷ 0 ∷ 0 ∷ 0 ∷ 14 ∷ []
  pub next : (answer (run closing) 7).ticket ≡ 4
  -- after the reset tickets and slots begin again, and the own number is 3
  pub again : (answer (run closing) 12).ticket ≡ 1
  pub requests : frames_of (run closing) 14
      ≡ frame_with (id_of 0 req 0 5 7) (request 6 0 8)
      ∷ frame_with (id_of 16 req 0 5 7) (request 6 128 8)
      ∷ frame_with (id_of 16 req 3 5 7) (request 6 0 8)
      ∷ []

-- ── Late answers ───────────────────────────────────────────────────────────────────────────────────────────────────

-- each slot's turns left to rest after the first n calls
abbrev pub rests_at : Run → ℕ → List ℕ
rests_at r n = (state r n).rests

-- and, by the ledger, the accepted turns since its last request
abbrev pub since_at : Run → ℕ → List (Option ℕ)
since_at r n = map (λ e. e.turns_since) (ledger r n).entries

-- "A slow box answered after its read was closed": 3 takes slot 1, and the late answers, 4 and 6, are 17. After the reset, 9 takes slot 0
unfoldable pub answered_late : List Call
answered_late =
    opening its_own (read 5 7 0 8)
    ∷ turn its_own
    ∷ close 1
    ∷ opening its_own (read 5 7 8 8)
    ∷ frame its_own (reply 5 0 eight)
    ∷ turn its_own
    ∷ frame its_own (reply 5 0 eight)
    ∷ frame its_own (reply 5 128 (replicate 8 77))
    ∷ reset 0
    ∷ opening its_own (read 5 7 8 8)
    ∷ turn its_own
    ∷ []

pub record AnsweredLate : Type 0 where
  pub numbers : numbers_of (run answered_late) 11 ≡ 0 ∷ 0 ∷ 0 ∷ 0 ∷ 17 ∷ 0 ∷ 17 ∷ 0 ∷ 0 ∷ 0 ∷ 0 ∷ []
  pub requests : frames_of (run answered_late) 11
      ≡ frame_with (id_of 0 req 0 5 7) (request 6 0 8)
      ∷ frame_with (id_of 8 req 0 5 7) (request 6 128 8)
      ∷ frame_with (id_of 8 req 0 5 7) (request 6 0 8)
      ∷ []
  pub shown : answer_to (run answered_late) 8 (bytes its_own 2) ≡ showing (replicate 8 77)
  -- a closing keeps the rest, and so does a reply, taken or not; a reset clears all
  pub closed : rests_at (run answered_late) 3 ≡ 60 ∷ 0 ∷ 0 ∷ 0 ∷ []
  pub asked : rests_at (run answered_late) 6 ≡ 59 ∷ 60 ∷ 0 ∷ 0 ∷ []
  pub replied : rests_at (run answered_late) 8 ≡ 59 ∷ 60 ∷ 0 ∷ 0 ∷ []
  pub again : rests_at (run answered_late) 9 ≡ replicate 4 0
  -- and so says the ledger, by the calls alone
  pub noted : since_at (run answered_late) 8 ≡ some 1 ∷ some 0 ∷ none ∷ none ∷ []
  pub renoted : since_at (run answered_late) 9 ≡ replicate 4 none

-- which turns begin a rest, and that it goes down while the slot is held
pub record RestBegins : Type 0 where
  -- a silent device: the request is sent on turns 1 and 21
  pub asked : rests_at (run silence) 2 ≡ 60 ∷ 0 ∷ 0 ∷ 0 ∷ []
  pub held : rests_at (run silence) 3 ≡ 59 ∷ 0 ∷ 0 ∷ 0 ∷ []
  pub waited : rests_at (run silence) 21 ≡ 41 ∷ 0 ∷ 0 ∷ 0 ∷ []
  pub again : rests_at (run silence) 22 ≡ 60 ∷ 0 ∷ 0 ∷ 0 ∷ []
  -- two writes' CMDs, and a checked write's CMDs and its first REQ
  pub written : rests_at (run taking) 4 ≡ replicate 4 0
  pub sending : rests_at (run reading_back) 3 ≡ replicate 4 0
  pub reads_back : rests_at (run reading_back) 4 ≡ 60 ∷ 0 ∷ 0 ∷ 0 ∷ []
  -- and so says the ledger
  pub noted : since_at (run silence) 22 ≡ some 0 ∷ none ∷ none ∷ none ∷ []
  pub write_noted : since_at (run taking) 4 ≡ replicate 4 none

-- four reads send their requests, 4 to 7, and are closed; then come n turns
unfoldable pub four_closed : ℕ → List Call
four_closed n =
    replicate 4 (opening its_own (read 5 7 0 8)) ++ replicate 4 (turn its_own) ++ close 1 ∷ close 2 ∷ close 3 ∷ close 4 ∷ replicate n (turn its_own)

abbrev pub opens_then : ℕ → Ask → ℕ
opens_then n a = (answer_to (run (four_closed 57)) n (opening its_own a)).number

-- an entry of the ledger
abbrev pub noting : ℕ → Option ℕ → Entry
noting ticket since = record { ticket = ticket; turns_since = since }

pub record AllRest : Type 0 where
  -- all slots are held, though they rest
  pub held : opens_then 8 (read 5 7 0 8) ≡ 12
  -- 59 turns after the first request all rest
  pub reads : opens_then 68 (read 5 7 0 8) ≡ 19
  pub writes : opens_then 68 (write 5 7 0 eight) ≡ 19
  pub checks : opens_then 68 (check 5 7 0 eight) ≡ 19
  -- one turn more, and slot 0 is given
  pub rests : rests_at (run (four_closed 57)) 69 ≡ 0 ∷ 1 ∷ 2 ∷ 3 ∷ []
  pub given : opens_then 69 (read 5 7 0 8) ≡ 0
  -- by the ledger too: it takes neither a held slot, nor one 59 turns after its request
  pub found : first_givable (noting 1 none ∷ noting 0 (some 59) ∷ noting 2 (some 60) ∷ noting 0 (some 60) ∷ []) ≡ 3

-- ── Sound states ───────────────────────────────────────────────────────────────────────────────────────────────────

-- a slot of 128 bytes
abbrev pub holding : (ticket device table offset phase kind progress sends left : ℕ) → Slot
holding ticket device table offset phase kind progress sends left = record {
  ticket = ticket;
  offset = offset;
  phase = phase;
  kind = kind;
  device = device;
  table = table;
  count = 128;
  progress = progress;
  sends = sends;
  left = left;
}

-- a read that waits for its last eight bytes, after its third send
abbrev pub asking : (ticket device table offset : ℕ) → Slot
asking ticket device table offset = holding ticket device table offset waiting reads 120 3 20

-- the slot of ticket 2, with the greatest device, table and offset
abbrev pub held : (phase kind progress sends left : ℕ) → Slot
held = holding 2 15 31 1920

-- a state with slot x beside that of ticket 1, the last ticket given being 2
abbrev pub beside_one : (own last : ℕ) → Slot → Bridge
beside_one own last x = record {
  slots = asking 1 15 31 1920 ∷ x ∷ blank ∷ blank ∷ [];
  issued = 2;
  own = own;
  last = last;
  rests = replicate 4 0;
}

-- whether it is sound
abbrev pub sound_with : Slot → Bool
sound_with x = sound (beside_one 15 3 x)

-- sound ones first; then, in 01's order, what is one number away from one of them
pub record Limits : Type 0 where
  pub waits : sound_with (held waiting reads 120 3 20) ≡ true
  pub readied : sound_with (held ready reads 120 2 0) ≡ true
  pub whole : sound_with (held done reads 128 0 0) ≡ true
  pub given_up : sound_with (held gave_up reads 120 3 0) ≡ true
  pub written : sound_with (held ready writes 120 0 0) ≡ true
  pub unheld : sound_with blank ≡ true
  pub own_number : sound (beside_one 16 3 (held waiting reads 120 3 20)) ≡ false
  pub last_served : sound (beside_one 15 4 (held waiting reads 120 3 20)) ≡ false
  pub same_ticket : sound_with (asking 1 15 31 1920) ≡ false
  pub no_ticket : sound_with (asking 0 15 31 1920) ≡ false
  pub not_given : sound_with (asking 3 15 31 1920) ≡ false
  pub no_device : sound_with (asking 2 16 31 1920) ≡ false
  pub no_table : sound_with (asking 2 15 32 1920) ≡ false
  pub past_table : sound_with (asking 2 15 31 1921) ≡ false
  pub no_multiple : sound_with (held waiting reads 124 3 20) ≡ false
  pub not_done : sound_with (held ready reads 128 2 0) ≡ false
  pub not_whole : sound_with (held done reads 120 0 0) ≡ false
  pub ready_sends : sound_with (held ready reads 120 3 0) ≡ false
  pub no_sends : sound_with (held waiting reads 120 0 20) ≡ false
  pub many_sends : sound_with (held waiting reads 120 4 20) ≡ false
  pub no_turns : sound_with (held waiting reads 120 3 0) ≡ false
  pub many_turns : sound_with (held waiting reads 120 3 21) ≡ false
  pub gave_up_sends : sound_with (held gave_up reads 120 2 0) ≡ false
  pub write_sends : sound_with (held ready writes 120 1 0) ≡ false
  pub done_sends : sound_with (held done reads 128 1 0) ≡ false
  pub write_waits : sound_with (held waiting writes 120 3 20) ≡ false
  pub write_gives_up : sound_with (held gave_up writes 120 3 0) ≡ false
  pub ready_turns : sound_with (held ready reads 120 2 1) ≡ false
  pub free_turns : sound_with (moved blank free 0 0 1) ≡ false
  pub no_phase : sound_with (held 6 reads 120 3 0) ≡ false
  pub no_kind : sound_with (held ready 4 120 0 0) ≡ false

-- C-17: "sound as an unfinished write while sending, then as a read; different, with progress a multiple of 8 below the count and no sends"
pub record CheckedLimits : Type 0 where
  pub sending : sound_with (held ready checks 120 0 0) ≡ true
  pub readied : sound_with (held ready reads_back 120 2 0) ≡ true
  pub waits : sound_with (held waiting reads_back 120 3 20) ≡ true
  pub whole : sound_with (held done reads_back 128 0 0) ≡ true
  pub given_up : sound_with (held gave_up reads_back 120 3 0) ≡ true
  pub differs : sound_with (held different reads_back 120 0 0) ≡ true
  pub sending_done : sound_with (held done checks 128 0 0) ≡ false
  pub sending_ended : sound_with (held done checks 120 0 0) ≡ false
  pub sending_whole : sound_with (held ready checks 128 0 0) ≡ false
  pub sending_waits : sound_with (held waiting checks 120 3 20) ≡ false
  pub sending_gives_up : sound_with (held gave_up checks 120 3 0) ≡ false
  pub sending_differs : sound_with (held different checks 120 0 0) ≡ false
  pub sending_sends : sound_with (held ready checks 120 1 0) ≡ false
  pub ready_whole : sound_with (held ready reads_back 128 2 0) ≡ false
  pub ready_sends : sound_with (held ready reads_back 120 3 0) ≡ false
  pub no_sends : sound_with (held waiting reads_back 120 0 20) ≡ false
  pub many_turns : sound_with (held waiting reads_back 120 3 21) ≡ false
  pub gave_up_sends : sound_with (held gave_up reads_back 120 2 0) ≡ false
  pub done_sends : sound_with (held done reads_back 128 1 0) ≡ false
  pub read_differs : sound_with (held different reads 120 0 0) ≡ false
  pub write_differs : sound_with (held different writes 120 0 0) ≡ false
  pub differs_sends : sound_with (held different reads_back 120 1 0) ≡ false
  pub differs_turns : sound_with (held different reads_back 120 0 1) ≡ false
  pub differs_whole : sound_with (held different reads_back 128 0 0) ≡ false
  pub differs_within : sound_with (held different reads_back 124 0 0) ≡ false

-- whether a state of two held slots and two free ones is sound with these turns left to rest
abbrev pub sound_rested : List ℕ → Bool
sound_rested rests = sound (record {
  slots = asking 1 15 31 1920 ∷ held ready writes 120 0 0 ∷ blank ∷ blank ∷ [];
  issued = 2;
  own = 15;
  last = 3;
  rests = rests;
})

-- C-19: "each slot's turns left to rest, sound from 0 to 60"
pub record RestLimits : Type 0 where
  pub none : sound_rested (replicate 4 0) ≡ true
  pub most : sound_rested (replicate 4 60) ≡ true
  pub first : sound_rested (61 ∷ 0 ∷ 0 ∷ 0 ∷ []) ≡ false
  pub second : sound_rested (0 ∷ 61 ∷ 0 ∷ 0 ∷ []) ≡ false
  pub third : sound_rested (0 ∷ 0 ∷ 61 ∷ 0 ∷ []) ≡ false
  pub fourth : sound_rested (0 ∷ 0 ∷ 0 ∷ 61 ∷ []) ≡ false

-- ── An opening's numbers ───────────────────────────────────────────────────────────────────────────────────────────

-- what an opening answers
abbrev pub opens : Bridge → Lent Buffers → Ask → ℕ
opens s l a = (step s start (opening l a)).answer.number

-- all slots held, and all tickets given
abbrev pub full : (own : ℕ) → Bridge
full own = record {
  slots = asking 1 15 31 1920 ∷ asking 2 15 31 1920 ∷ asking 3 15 31 1920 ∷ asking 4 15 31 1920 ∷ [];
  issued = 4294967295;
  own = own;
  last = 3;
  rests = replicate 4 60;
}

-- no slot held, slots 0 and 2 with so many turns left to rest, the others with 60
abbrev pub given : (issued rest : ℕ) → Bridge
given issued rest = record { slots = replicate 4 blank; issued = issued; own = 15; last = 3; rests = rest ∷ 60 ∷ rest ∷ 60 ∷ [] }

-- buffers, one of which is a byte too short
abbrev pub short_first : Buffers
short_first = both (replicate 511 255) (replicate 512 254)

abbrev pub short_second : Buffers
short_second = both (replicate 512 255) (replicate 511 254)

-- 11, 10, 7, 9, 8, 12, 19, 13, 0: where one is answered, the causes of all that come after it are there too
unfoldable pub in_order : ((device table offset count : ℕ) → Ask) → List ℕ
in_order ask =
    opens (full 16) (other short_second) (ask 16 32 2048 129)
    -- either buffer
    ∷ opens (full 15) (other short_second) (ask 16 32 2048 129)
    ∷ opens (full 15) (other short_first) (ask 16 32 2048 129)
    -- device, table
    ∷ opens (full 15) its_own (ask 16 31 2048 129)
    ∷ opens (full 15) its_own (ask 15 32 2048 129)
    -- too many bytes, past the table
    ∷ opens (full 15) its_own (ask 15 31 2048 129)
    ∷ opens (full 15) its_own (ask 15 31 1921 128)
    -- no slot, none that does not rest, no ticket
    ∷ opens (full 15) its_own (ask 15 31 1920 128)
    ∷ opens (given 4294967295 1) its_own (ask 15 31 1920 128)
    ∷ opens (given 4294967295 0) its_own (ask 15 31 1920 128)
    ∷ opens (given 4294967294 0) its_own (ask 15 31 1920 128)
    ∷ []

pub record Openings : Type 0 where
  pub reads : in_order read ≡ 11 ∷ 10 ∷ 10 ∷ 7 ∷ 7 ∷ 9 ∷ 8 ∷ 12 ∷ 19 ∷ 13 ∷ 0 ∷ []
  pub writes : in_order (λ d t o n. write d t o (replicate n 0)) ≡ 11 ∷ 10 ∷ 10 ∷ 7 ∷ 7 ∷ 9 ∷ 8 ∷ 12 ∷ 19 ∷ 13 ∷ 0 ∷ []
  pub checks : in_order (λ d t o n. check d t o (replicate n 0)) ≡ 11 ∷ 10 ∷ 10 ∷ 7 ∷ 7 ∷ 9 ∷ 8 ∷ 12 ∷ 19 ∷ 13 ∷ 0 ∷ []

-- ── A buffer that is too short ─────────────────────────────────────────────────────────────────────────────────────

-- slot 0 waits, slot 1 is ready, slot 2 is free
abbrev pub busy : Bridge
busy = beside_one 15 3 (held ready checks 120 0 0)

-- the reply that slot 0 awaits
abbrev pub awaited : Frame
awaited = frame_with (id_of 120 rsp 15 15 6) (replicate 8 9)

-- what takes both buffers
abbrev pub lending : List Call
lending = opening its_own (read 5 7 6 10) ∷ opening its_own (check 5 7 6 ten) ∷ turn its_own ∷ frame its_own awaited ∷ []

-- what each of them does with these buffers
abbrev pub lent_to : Buffers → List Result
lent_to b = map (step busy b) lending

abbrev pub numbers : List Result → List ℕ
numbers = map (λ r. r.answer.number)

-- 10 for either, and nothing is changed
pub record ShortBuffers : Type 0 where
  pub whole : numbers (lent_to start) ≡ replicate 4 0
  pub first : numbers (lent_to short_first) ≡ replicate 4 10
  pub second : numbers (lent_to short_second) ≡ replicate 4 10
  pub kept_first : lent_to short_first ≡ replicate 4 (record { answer = plain 10; state = busy; buffers = short_first })
  pub kept_second : lent_to short_second ≡ replicate 4 (record { answer = plain 10; state = busy; buffers = short_second })

-- all of it
pub record Examples : Type 0 where
  pub unstarred : Unstarred
  pub fetched : Fetched
  pub by_turns : ByTurns
  pub checked : Checked
  pub unplugged : Unplugged
  pub dropped : Dropped
  pub slow_read : SlowRead
  pub slow_check : SlowCheck
  pub own_buffers : OwnBuffers
  pub ended : Ended
  pub answered_late : AnsweredLate
  pub rest_begins : RestBegins
  pub all_rest : AllRest
  pub limits : Limits
  pub checked_limits : CheckedLimits
  pub rest_limits : RestLimits
  pub openings : Openings
  pub short_buffers : ShortBuffers
