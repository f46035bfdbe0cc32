-- The calls one by one: what is kept, what changes (specs/Changes), what a turn sends, and which number is given when.
use Rattle.std.specs.Prelude.{ℕ, suc, ◌+◌, ◌^◌, ◌≤◌, ◌<◌, ◌≡◌, ◌↔◌, ◌⊎◌, ◌≢◌, List, true, false, length}
use Rattle.std.proofs.Math.Option.{none, some}
use Rattle.bus_rules.specs.Frames.{rsp}
use Rattle.bus_rules.specs.Ident.{id_spare, id_to, id_kind}
use Rattle.wire.specs.First.{First, Zero}
use Rattle.bridge_rules.specs.State.{Frame, Bridge, free, ready, slot, rest, sound, fresh}
use Rattle.bridge_rules.specs.Sound.{SoundExactly}
use Rattle.bridge_rules.specs.Answers.{Answer, Buffers, plain}
use Rattle.bridge_rules.specs.Opening.{Ask, ask_device, ask_table, ask_offset, ask_count, is_read, is_write, is_check}
use Rattle.bridge_rules.specs.Turn.{aged}
use Rattle.bridge_rules.specs.Call.{Call, Lent, its_own, other, opening, turn, frame, bytes, close, reset, step}
use Rattle.bridge_rules.specs.Changes.{FirstReady, NextBytes, Changes}
use Rattle.bridge_rules.specs.Run.{ticket, Run, Lawful, Transfer, Stands, slot_of, answer, accepted, ledger, chunks, status_at}
use Rattle.bridge_rules.specs.Examples.{Examples}
use Rattle.bridge_rules.specs.Replies.{Replied, Resting, last_served, request_frame, command_frame, AllWritten}
use Rattle.bridge_rules.specs.Demand3.{HeldAt}

-- ── Sound states ───────────────────────────────────────────────────────────────────────────────────────────────────

-- every call handed a sound state leaves a sound one, whatever its arguments and its buffers
abbrev pub KeepsSound : Type 0
KeepsSound = (s : Bridge) (b : Buffers) (c : Call) → sound s ≡ true → sound (step s b c).state ≡ true

-- a reset to an own number that is at most 15 leaves the fresh bridge, whatever the state was, and that is sound
abbrev pub ResetFresh : Type 0
ResetFresh = (s : Bridge) (b : Buffers) (own : ℕ) → own ≤ 15 → ((step s b (reset own)).state ≡ fresh own) × (sound (fresh own) ≡ true)

-- an unsound state gets 11 from every call but reset; state and buffers stay as they were
abbrev pub UnsoundRefused : Type 0
UnsoundRefused = (s : Bridge) (b : Buffers) (c : Call) → sound s ≡ false → ((own : ℕ) → c ≢ reset own) →
    step s b c ≡ record { answer = plain 11; state = s; buffers = b }

-- a refusal leaves state and buffers as they were, yields no frame and shows no bytes, and its other numbers are 0
abbrev pub RefusalsKeep : Type 0
RefusalsKeep = (s : Bridge) (b : Buffers) (c : Call) (n : ℕ) → (step s b c).answer.number ≡ n → n ≢ 0 →
    ((step s b c).state ≡ s) × ((step s b c).buffers ≡ b) × ((step s b c).answer ≡ plain n)

-- ── Turns ──────────────────────────────────────────────────────────────────────────────────────────────────────────

-- what an accepted turn yields: a frame exactly when a slot is ready after its aging, nothing exactly when none is, and the frame is
-- for the first such slot's next bytes
pub record TurnYields (s : Bridge) (b : Buffers) (a : Answer) : Type 0 where
  pub sends : ((f : Frame) × (a.sent ≡ some f)) ↔ ((k : ℕ) × (k < 4) × ((aged (slot s k)).phase ≡ ready))
  pub silent : (a.sent ≡ none) ↔ ((k : ℕ) → k < 4 → (aged (slot s k)).phase ≢ ready)
  pub yields : (f : Frame) → (a.sent ≡ some f) ↔ ((k : ℕ) × FirstReady s k × NextBytes s.own k (aged (slot s k)) b f)

abbrev pub TurnSends : Type 0
TurnSends = (s : Bridge) (b : Buffers) → (step s b (turn its_own)).answer.number ≡ 0 → TurnYields s b (step s b (turn its_own)).answer

-- in a run: a turn's frame is the REQ or CMD of a chunk of a transfer that stands and has not ended, and the slot last served, which is read off the bridge
-- that the turn hands back, is its slot
pub record SentFor (r : Run) (j : ℕ) (f : Frame) : Type 0 where
  pub asker : Transfer r
  pub stands : Stands r asker j
  pub unfinished : status_at r asker j ≡ 15
  pub served : last_served r j ≡ slot_of r asker
  pub c : ℕ
  pub chunk : c < chunks r asker
  pub asks : is_read asker.ask ≡ true → f ≡ request_frame r asker c j
  pub carries : is_write asker.ask ≡ true → f ≡ command_frame r asker c j
  -- a checked write sends its CMDs until all are yielded, then REQs
  pub checks : is_check asker.ask ≡ true → ¬ AllWritten r asker j → f ≡ command_frame r asker c j
  pub reads_back : is_check asker.ask ≡ true → AllWritten r asker j → f ≡ request_frame r asker c j

abbrev pub SendsForTransfers : Type 0
SendsForTransfers = (r : Run) → Lawful r → (j : ℕ) (f : Frame) → accepted r j ≡ true → (answer r j).sent ≡ some f → SentFor r j f

-- ── Openings ───────────────────────────────────────────────────────────────────────────────────────────────────────

-- 01's order: 11, 10, 7, 9, 8, 12, 13, with C-19's 19 "in 12's place where slots are free but all resting"; 0 exactly when none applies
abbrev pub OpeningNumber : Bridge → Buffers → Ask → ℕ → Type 0
OpeningNumber s b a =
    First (sound s ≡ false) 11
    (First (¬ ((length b.first ≡ 512) × (length b.second ≡ 512))) 10
    (First (¬ ((ask_device a ≤ 15) × (ask_table a ≤ 31))) 7
    (First (¬ ((1 ≤ ask_count a) × (ask_count a ≤ 128))) 9
    (First (2048 < ask_offset a + ask_count a) 8
    (First ((k : ℕ) → k < 4 → (slot s k).phase ≢ free) 12
    (First ((k : ℕ) → k < 4 → (slot s k).phase ≡ free → rest s k ≢ 0) 19
    (First (4294967295 ≤ s.issued) 13
    Zero)))))))

abbrev pub OpeningNumbers : Type 0
OpeningNumbers = (s : Bridge) (b : Buffers) (a : Ask) (n : ℕ) → ((step s b (opening its_own a)).answer.number ≡ n) ↔ OpeningNumber s b a n

-- so it is answered 0 exactly when none of them applies
pub record Acceptable (s : Bridge) (b : Buffers) (a : Ask) : Type 0 where
  pub accepts : sound s ≡ true
  pub first : length b.first ≡ 512
  pub second : length b.second ≡ 512
  pub device : ask_device a ≤ 15
  pub table : ask_table a ≤ 31
  pub nonempty : 1 ≤ ask_count a
  pub few : ask_count a ≤ 128
  pub inside : ask_offset a + ask_count a ≤ 2048
  pub room : (k : ℕ) × (k < 4) × ((slot s k).phase ≡ free) × (rest s k ≡ 0)
  pub ticket : s.issued < 4294967295

abbrev pub OpensExactly : Type 0
OpensExactly = (s : Bridge) (b : Buffers) (a : Ask) → ((step s b (opening its_own a)).answer.number ≡ 0) ↔ Acceptable s b a

-- ── Numbers in a run, by the calls and their answers ───────────────────────────────────────────────────────────────

-- of an opening: 11 never; 12 where each of the four slots is held by a transfer that stands, 19 where each is held or rests
abbrev pub OpeningInRun : (r : Run) → ℕ → Lent Buffers → Ask → ℕ → Type 0
OpeningInRun r n l a =
    First (l ≢ its_own) 10
    (First (¬ ((ask_device a ≤ 15) × (ask_table a ≤ 31))) 7
    (First (¬ ((1 ≤ ask_count a) × (ask_count a ≤ 128))) 9
    (First (2048 < ask_offset a + ask_count a) 8
    (First ((k : ℕ) → k < 4 → HeldAt r k n) 12
    (First ((k : ℕ) → k < 4 → HeldAt r k n ⊎ Resting r k n) 19
    (First (4294967295 ≤ (ledger r n).issued) 13
    Zero))))))

-- of a frame: 17 where it is no reply that a read or a checked write awaits
abbrev pub FrameInRun : (r : Run) → ℕ → Lent Buffers → Frame → ℕ → Type 0
FrameInRun r n l f =
    First (l ≢ its_own) 10
    (First (2 ^ 29 ≤ f.id) 1
    (First (id_spare f.id ≢ 0) 2
    (First (8 < f.len) 3
    (First (id_to f.id ≢ (ledger r n).own) 4
    (First (id_kind f.id ≢ rsp) 5
    (First (¬ ((x : Transfer r) × (c : ℕ) × Replied r x c n)) 17
    Zero))))))

-- of call n, whichever it is; status, and the bytes call with the bridge's first buffer, are told by demand 3
pub record NumbersInRun (r : Run) (n : ℕ) : Type 0 where
  pub opens : (l : Lent Buffers) (a : Ask) → r.calls n ≡ opening l a → (m : ℕ) → ((answer r n).number ≡ m) ↔ OpeningInRun r n l a m
  pub tickets : (l : Lent Buffers) (a : Ask) → r.calls n ≡ opening l a → (answer r n).number ≡ 0 → (answer r n).ticket ≡ suc (ledger r n).issued
  pub turns : (l : Lent Buffers) → r.calls n ≡ turn l → (m : ℕ) → ((answer r n).number ≡ m) ↔ First (l ≢ its_own) 10 Zero m
  pub frames : (l : Lent Buffers) (f : Frame) → r.calls n ≡ frame l f → (m : ℕ) → ((answer r n).number ≡ m) ↔ FrameInRun r n l f m
  -- a frame answered 0 is a read's or a checked write's reply
  pub replies : (l : Lent Buffers) (f : Frame) → r.calls n ≡ frame l f → (answer r n).number ≡ 0 → (x : Transfer r) × (c : ℕ) × Replied r x c n
  pub others : (b : List ℕ) (t : ℕ) → r.calls n ≡ bytes (other b) t → answer r n ≡ plain 10
  pub closes : (t : ℕ) → r.calls n ≡ close t → (m : ℕ) →
      ((answer r n).number ≡ m) ↔ First ((x : Transfer r) → Stands r x n → ticket r x ≢ t) 14 Zero m
  -- a closing answered 0 is that of a transfer that stands
  pub closed : (t : ℕ) → r.calls n ≡ close t → (answer r n).number ≡ 0 → (x : Transfer r) × Stands r x n × (ticket r x ≡ t)
  pub resets : (o : ℕ) → r.calls n ≡ reset o → (m : ℕ) → ((answer r n).number ≡ m) ↔ First (15 < o) 11 Zero m

abbrev pub NumbersInRuns : Type 0
NumbersInRuns = (r : Run) → Lawful r → (n : ℕ) → NumbersInRun r n

-- all of it
pub record Calls : Type 0 where
  pub keeps_sound : KeepsSound
  pub reset_fresh : ResetFresh
  pub unsound_refused : UnsoundRefused
  -- and a sound state is what 01 says
  pub sound_exactly : SoundExactly
  pub refusals_keep : RefusalsKeep
  -- what is not refused changes this, and no more
  pub changes : Changes
  pub turn_sends : TurnSends
  pub sends_for_transfers : SendsForTransfers
  pub opening_numbers : OpeningNumbers
  pub opens_exactly : OpensExactly
  pub numbers_in_runs : NumbersInRuns
  pub examples : Examples
