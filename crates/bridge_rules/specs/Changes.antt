-- What a call answered 0 changes, and that nothing else is changed.
use Rattle.std.specs.Prelude.{ℕ, suc, ◌+◌, ◌*◌, ◌-◌, ◌%◌, ◌≤◌, ◌<◌, ◌≡◌, ◌≢◌, ◌⊎◌, List, true, false, length, get_or, take, drop}
use Rattle.std.proofs.Math.Option.{none, some}
use Rattle.bus_rules.specs.Ident.{id_of, id_offset}
use Rattle.bus_rules.specs.Frames.{cmd, req, frame_with}
use Rattle.bus_rules.specs.Request.{request}
use Rattle.bridge_rules.specs.State.{Frame, Bridge, Slot, free, ready, waiting, done, gave_up, different, slot, moved, of_kind}
use Rattle.bridge_rules.specs.State.{reads, writes, checks, reads_back, rest}
use Rattle.bridge_rules.specs.Answers.{Buffers, Result}
use Rattle.bridge_rules.specs.Opening.{Ask, is_write, is_check, ask_kind, ask_device, ask_table, ask_offset, ask_count, ask_given}
use Rattle.bridge_rules.specs.Turn.{aged, chunk_len}
use Rattle.bridge_rules.specs.Call.{Lent, its_own, opening, turn, frame, status, bytes, close, reset, step}
use Rattle.bridge_rules.specs.Sound.{AllZero}

-- own number and last ticket are kept
abbrev pub SameNumbers : Bridge → Bridge → Type 0
SameNumbers s t = (t.own ≡ s.own) × (t.issued ≡ s.issued)

-- the slots but slot k are kept
abbrev pub OthersSame : Bridge → Bridge → ℕ → Type 0
OthersSame s t k = (j : ℕ) → j ≢ k → slot t j ≡ slot s j

-- ── Slots ──────────────────────────────────────────────────────────────────────────────────────────────────────────

-- past the next n bytes: "the next eight bytes are ready with no sends counted, or" it is "done"
pub record MovesOn (x y : Slot) (n : ℕ) : Type 0 where
  pub next : x.progress + n < x.count → y ≡ moved x ready (x.progress + n) 0 0
  pub whole : x.count ≤ x.progress + n → y ≡ moved x done x.count 0 0

-- "first ages each waiting read: 20 turns after a send it is ready again, or after its third send has given up"
pub record Ages (x y : Slot) : Type 0 where
  pub others : x.phase ≢ waiting → y ≡ x
  pub waits : x.phase ≡ waiting → 2 ≤ x.left → y ≡ moved x waiting x.progress x.sends (x.left - 1)
  pub again : x.phase ≡ waiting → x.left ≡ 1 → x.sends ≤ 2 → y ≡ moved x ready x.progress x.sends 0
  pub gives_up : x.phase ≡ waiting → x.left ≡ 1 → x.sends ≡ 3 → y ≡ moved x gave_up x.progress x.sends 0

-- "a read sends REQ .., then waits; a write sends CMD and is ready at once for the next, or done"; a checked write "sends the write, then
-- reads the same range back": after its last CMD it is ready, as one that reads back, for the first eight bytes
pub record Sends (x y : Slot) : Type 0 where
  pub readied : x.phase ≡ ready
  pub asked : (x.kind ≡ reads) ⊎ (x.kind ≡ reads_back) → y ≡ moved x waiting x.progress (suc x.sends) 20
  pub carried : x.kind ≡ writes → MovesOn x y 8
  pub checked : x.kind ≡ checks → x.progress + 8 < x.count → y ≡ moved x ready (x.progress + 8) 0 0
  pub turns_back : x.kind ≡ checks → x.count ≤ x.progress + 8 → y ≡ moved (of_kind reads_back x) ready 0 0 0

-- ── Buffers ────────────────────────────────────────────────────────────────────────────────────────────────────────

-- buffer b' is b with the first n of these bytes from place p on, and no other change
pub record Copied (b b' : List ℕ) (p n : ℕ) (bytes : List ℕ) : Type 0 where
  pub copied : (i : ℕ) → i < n → get_or b' (p + i) 0 ≡ get_or bytes i 0
  pub before : (i : ℕ) → i < p → get_or b' i 0 ≡ get_or b i 0
  pub after : (i : ℕ) → p + n ≤ i → get_or b' i 0 ≡ get_or b i 0
  pub same_length : length b' ≡ length b

-- ── Openings ───────────────────────────────────────────────────────────────────────────────────────────────────────

-- "it takes the lowest free slot and the next ticket ..; a write's bytes are copied into its slot, and their number is the count"; a
-- checked write's "opening copies only into a second lent buffer"; a resting slot "is not given to a new transfer"
pub record Takes (s : Bridge) (b : Buffers) (a : Ask) (r : Result) : Type 0 where
  pub ticket : r.answer.ticket ≡ suc s.issued
  pub k : ℕ
  pub bound : k < 4
  pub was_free : (slot s k).phase ≡ free
  pub rested : rest s k ≡ 0
  pub lowest : (j : ℕ) → j < k → (slot s j).phase ≡ free → rest s j ≢ 0
  pub taken : slot r.state k ≡ record {
    ticket = suc s.issued;
    offset = ask_offset a;
    phase = ready;
    kind = ask_kind a;
    device = ask_device a;
    table = ask_table a;
    count = ask_count a;
    progress = 0;
    sends = 0;
    left = 0;
  }
  pub others : OthersSame s r.state k
  pub own : r.state.own ≡ s.own
  pub issued : r.state.issued ≡ suc s.issued
  pub last : r.state.last ≡ s.last
  pub rests : r.state.rests ≡ s.rests
  pub written : is_write a ≡ true → Copied b.first r.buffers.first (128 * k) (length (ask_given a)) (ask_given a)
  pub checked : is_check a ≡ true → Copied b.second r.buffers.second (128 * k) (length (ask_given a)) (ask_given a)
  pub first_same : is_write a ≡ false → r.buffers.first ≡ b.first
  pub second_same : is_check a ≡ false → r.buffers.second ≡ b.second

abbrev pub OpenChanges : Type 0
OpenChanges = (s : Bridge) (b : Buffers) (a : Ask) → (step s b (opening its_own a)).answer.number ≡ 0 → Takes s b a (step s b (opening its_own a))

-- ── Turns ──────────────────────────────────────────────────────────────────────────────────────────────────────────

-- slot k rests one turn less, unless it does not rest
abbrev pub RestsLess : Bridge → Bridge → ℕ → Type 0
RestsLess s t k = rest t k ≡ rest s k - 1

-- a turn that sends nothing ages the waiting slots and the rests, and that is all
pub record SilentTurn (s t : Bridge) : Type 0 where
  pub ages : (k : ℕ) → k < 4 → Ages (slot s k) (slot t k)
  pub rests : (k : ℕ) → k < 4 → RestsLess s t k
  pub last : t.last ≡ s.last

-- slot k is the first in the search, from the one after the last served, that is ready after the turn's aging
pub record FirstReady (s : Bridge) (k : ℕ) : Type 0 where
  pub d : ℕ
  pub near : d < 4
  pub is : k ≡ (suc s.last + d) % 4
  pub readied : (aged (slot s k)).phase ≡ ready
  pub before : (e : ℕ) → e < d → (aged (slot s ((suc s.last + e) % 4))).phase ≢ ready

-- frame f carries n bytes of a buffer, those of the transfer x in slot k
pub record CarriesBytes (own k n : ℕ) (x : Slot) (b : List ℕ) (f : Frame) : Type 0 where
  pub is : f ≡ frame_with (id_of (x.offset + x.progress) cmd own x.device x.table) (take n (drop (128 * k + x.progress) b))
  pub all : length (take n (drop (128 * k + x.progress) b)) ≡ n

-- frame f asks for or carries the next 1 to 8 bytes of the transfer x in slot k; a checked write's are in the second buffer
pub record NextBytes (own k : ℕ) (x : Slot) (b : Buffers) (f : Frame) : Type 0 where
  pub n : ℕ
  pub next : n ≡ chunk_len x.count x.progress
  pub nonempty : 1 ≤ n
  pub few : n ≤ 8
  pub inside : x.progress + n ≤ x.count
  pub requests : (x.kind ≡ reads) ⊎ (x.kind ≡ reads_back) →
      f ≡ frame_with (id_of (x.offset + x.progress) req own x.device x.table) (request 6 (128 * k + x.progress) n)
  pub commands : x.kind ≡ writes → CarriesBytes own k n x b.first f
  pub checked : x.kind ≡ checks → CarriesBytes own k n x b.second f

-- one that sends frame f serves the first slot that is ready, with its next bytes, and ages the other waiting slots and the rests; a slot
-- that sent a REQ rests 60 turns
pub record SendingTurn (s t : Bridge) (b : Buffers) (f : Frame) : Type 0 where
  pub k : ℕ
  pub first : FirstReady s k
  pub last : t.last ≡ k
  pub ages : Ages (slot s k) (aged (slot s k))
  pub bytes : NextBytes s.own k (aged (slot s k)) b f
  pub sends : Sends (aged (slot s k)) (slot t k)
  pub others : (j : ℕ) → j < 4 → j ≢ k → Ages (slot s j) (slot t j)
  pub asked : ((aged (slot s k)).kind ≡ reads) ⊎ ((aged (slot s k)).kind ≡ reads_back) → rest t k ≡ 60
  pub carried : ((aged (slot s k)).kind ≡ writes) ⊎ ((aged (slot s k)).kind ≡ checks) → RestsLess s t k
  pub rests_less : (j : ℕ) → j < 4 → j ≢ k → RestsLess s t j

pub record Turned (s : Bridge) (b : Buffers) (r : Result) : Type 0 where
  pub numbers : SameNumbers s r.state
  pub buffers : r.buffers ≡ b
  pub silent : r.answer.sent ≡ none → SilentTurn s r.state
  pub serves : (f : Frame) → r.answer.sent ≡ some f → SendingTurn s r.state b f

abbrev pub TurnChanges : Type 0
TurnChanges = (s : Bridge) (b : Buffers) → (step s b (turn its_own)).answer.number ≡ 0 → Turned s b (step s b (turn its_own))

-- ── Frames ─────────────────────────────────────────────────────────────────────────────────────────────────────────

-- "It is stored; the next eight bytes are ready with no sends counted, or the read is done." The bytes that it brings, and no other byte,
-- lie at its reply offset
pub record Stored (s : Bridge) (b : Buffers) (f : Frame) (k : ℕ) (r : Result) : Type 0 where
  pub first : Copied b.first r.buffers.first (id_offset f.id) f.len f.bytes
  pub moves : MovesOn (slot s k) (slot r.state k) f.len

-- it "ends as different at the first reply that disagrees; that frame is answered 0 and not stored"
pub record NotStored (s : Bridge) (b : Buffers) (k : ℕ) (r : Result) : Type 0 where
  pub first : r.buffers.first ≡ b.first
  pub ends : slot r.state k ≡ moved (slot s k) different (slot s k).progress 0 0

-- byte i of the reply is what the second buffer has at the same place
abbrev pub SameByte : Buffers → Frame → ℕ → Type 0
SameByte b f i = get_or f.bytes i 0 ≡ get_or b.second (id_offset f.id + i) 0

-- a frame answered 0 is a waiting slot's, and its reply offset is in the slot's 128 bytes. What a read awaits is stored; what a checked
-- write awaits is compared with what it sent
pub record TakenReply (s : Bridge) (b : Buffers) (f : Frame) (r : Result) : Type 0 where
  pub k : ℕ
  pub bound : k < 4
  pub waited : (slot s k).phase ≡ waiting
  pub from : 128 * k ≤ id_offset f.id
  pub to : id_offset f.id + f.len ≤ 128 * k + 128
  pub read : (slot s k).kind ≡ reads → Stored s b f k r
  pub equal : (slot s k).kind ≡ reads_back → ((i : ℕ) → i < f.len → SameByte b f i) → Stored s b f k r
  pub differs : (slot s k).kind ≡ reads_back → (i : ℕ) → i < f.len → ¬ SameByte b f i → NotStored s b k r
  pub second : r.buffers.second ≡ b.second
  pub others : OthersSame s r.state k
  pub numbers : SameNumbers s r.state
  pub last : r.state.last ≡ s.last
  pub rests : r.state.rests ≡ s.rests

-- of a frame of eight bytes, as its declared type has it
abbrev pub FrameChanges : Type 0
FrameChanges = (s : Bridge) (b : Buffers) (f : Frame) → length f.bytes ≡ 8 → (step s b (frame its_own f)).answer.number ≡ 0 →
    TakenReply s b f (step s b (frame its_own f))

-- ── Closings, resets, status and bytes ─────────────────────────────────────────────────────────────────────────────

-- "closing .. frees the slot in any state": the one that holds the ticket, and no other
pub record Frees (s : Bridge) (b : Buffers) (t : ℕ) (r : Result) : Type 0 where
  pub k : ℕ
  pub bound : k < 4
  pub held : (slot s k).phase ≢ free
  pub ticket : (slot s k).ticket ≡ t
  pub freed : AllZero (slot r.state k)
  pub others : OthersSame s r.state k
  pub numbers : SameNumbers s r.state
  pub last : r.state.last ≡ s.last
  pub rests : r.state.rests ≡ s.rests
  pub buffers : r.buffers ≡ b

abbrev pub CloseChanges : Type 0
CloseChanges = (s : Bridge) (b : Buffers) (t : ℕ) → (step s b (close t)).answer.number ≡ 0 → Frees s b t (step s b (close t))

-- "reset turns any state into the fresh bridge of a given own number": no slot is held or rests, no ticket was given, and slot 0 comes first
pub record Fresh (own : ℕ) (t : Bridge) : Type 0 where
  pub number : t.own ≡ own
  pub slots : (k : ℕ) → AllZero (slot t k)
  pub issued : t.issued ≡ 0
  pub last : t.last ≡ 3
  pub rests : (k : ℕ) → rest t k ≡ 0

-- nothing of the state before is kept
pub record Restarts (s : Bridge) (b : Buffers) (own : ℕ) (r : Result) : Type 0 where
  pub is_fresh : Fresh own r.state
  pub same : (s' : Bridge) → (step s' b (reset own)).state ≡ r.state
  pub buffers : r.buffers ≡ b

abbrev pub ResetChanges : Type 0
ResetChanges = (s : Bridge) (b : Buffers) (own : ℕ) → (step s b (reset own)).answer.number ≡ 0 → Restarts s b own (step s b (reset own))

-- status and the bytes call change nothing, whatever they answer
abbrev pub NothingChanged : Type 0
NothingChanged = (s : Bridge) (b : Buffers) (l : Lent (List ℕ)) (t : ℕ) →
    ((step s b (status t)).state ≡ s) × ((step s b (status t)).buffers ≡ b)
    × ((step s b (bytes l t)).state ≡ s) × ((step s b (bytes l t)).buffers ≡ b)

-- all of it
pub record Changes : Type 0 where
  pub openings : OpenChanges
  pub turns : TurnChanges
  pub frames : FrameChanges
  pub closings : CloseChanges
  pub resets : ResetChanges
  pub others : NothingChanged
