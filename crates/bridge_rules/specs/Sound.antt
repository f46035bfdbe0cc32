-- 01's paragraph "A sound state", and what C-17 and C-19 add to it, part by part, as facts about the state's numbers. `Calls.sound_exactly`: the
-- calls' test passes exactly where they hold.
use Rattle.std.specs.Prelude.{ℕ, ◌+◌, ◌*◌, ◌≤◌, ◌<◌, ◌≡◌, ◌↔◌, ◌⊎◌, ◌≢◌, true, length}
use Rattle.bridge_rules.specs.State.{Bridge, Slot, free, ready, waiting, done, gave_up, different, reads, writes, checks, reads_back, slot, rest, sound}

-- every number of a slot is 0
abbrev pub AllZero : Slot → Type 0
AllZero x =
    (x.ticket ≡ 0) × (x.offset ≡ 0) × (x.phase ≡ 0) × (x.kind ≡ 0) × (x.device ≡ 0) × (x.table ≡ 0) × (x.count ≡ 0)
    × (x.progress ≡ 0) × (x.sends ≡ 0) × (x.left ≡ 0)

-- a held slot, where `issued` is the last ticket given
pub record SoundHeld (issued : ℕ) (x : Slot) : Type 0 where
  -- it is a read's, a write's or a checked write's, in one of the five phases
  pub kinds : (x.kind ≡ reads) ⊎ (x.kind ≡ writes) ⊎ (x.kind ≡ checks) ⊎ (x.kind ≡ reads_back)
  pub phases : (x.phase ≡ ready) ⊎ (x.phase ≡ waiting) ⊎ (x.phase ≡ done) ⊎ (x.phase ≡ gave_up) ⊎ (x.phase ≡ different)
  -- "a .. ticket from 1 to the last given"
  pub ticket : (1 ≤ x.ticket) × (x.ticket ≤ issued)
  -- "lawful opening arguments": "device 0..15 and table 0..31, .. 1..128 bytes, .. offset plus count at most 2,048"
  pub device : x.device ≤ 15
  pub table : x.table ≤ 31
  pub count : (1 ≤ x.count) × (x.count ≤ 128)
  pub inside : x.offset + x.count ≤ 2048
  -- "progress a multiple of 8 below the count, or the count itself exactly when done"
  pub partway : x.phase ≢ done → ((c : ℕ) × (x.progress ≡ 8 * c)) × (x.progress < x.count)
  pub whole : (x.progress ≡ x.count) ↔ (x.phase ≡ done)
  -- "ready has 0..2 sends, waiting 1..3 and 1..20 turns left, given up has 3"
  pub ready_sends : x.phase ≡ ready → x.sends ≤ 2
  pub waiting_sends : x.phase ≡ waiting → (1 ≤ x.sends) × (x.sends ≤ 3)
  pub turns_left : x.phase ≡ waiting → (1 ≤ x.left) × (x.left ≤ 20)
  pub gave_up_sends : x.phase ≡ gave_up → x.sends ≡ 3
  -- "a write or done read has no sends, a write never waits or gives up"
  pub no_sends : (x.kind ≡ writes) ⊎ (x.phase ≡ done) → x.sends ≡ 0
  pub never_waits : x.kind ≡ writes → (x.phase ≢ waiting) × (x.phase ≢ gave_up)
  -- C-17: "sound as an unfinished write while sending, then as a read"
  pub unfinished : x.kind ≡ checks → (x.phase ≡ ready) × (x.sends ≡ 0)
  -- "different, with progress a multiple of 8 below the count and no sends" (the progress: `partway`), and only when it reads back
  pub differs : x.phase ≡ different → (x.kind ≡ reads_back) × (x.sends ≡ 0)
  -- "numbers that a slot doesn't use are 0": the turns left of one that does not wait
  pub unused : x.phase ≢ waiting → x.left ≡ 0

pub record SoundState (s : Bridge) : Type 0 where
  -- "own number 0..15, last served 0..3"
  pub own : s.own ≤ 15
  pub last : s.last ≤ 3
  -- "each held slot has .."
  pub held : (k : ℕ) → k < 4 → (slot s k).phase ≢ free → SoundHeld s.issued (slot s k)
  -- ".. a different ticket"
  pub distinct : (k j : ℕ) → k < 4 → j < 4 → k ≢ j → (slot s k).phase ≢ free → (slot s j).phase ≢ free →
      (slot s k).ticket ≢ (slot s j).ticket
  -- "numbers that a slot doesn't use are 0": all of a free one
  pub unheld : (k : ℕ) → k < 4 → (slot s k).phase ≡ free → AllZero (slot s k)
  -- C-19: "each slot's turns left to rest, sound from 0 to 60"
  pub rests : (k : ℕ) → k < 4 → rest s k ≤ 60
  -- the declared types': four slots, four rests, and tickets of 32 bits
  pub four : length s.slots ≡ 4
  pub four_rests : length s.rests ≡ 4
  pub issued : s.issued ≤ 4294967295

abbrev pub SoundExactly : Type 0
SoundExactly = (s : Bridge) → (sound s ≡ true) ↔ SoundState s
