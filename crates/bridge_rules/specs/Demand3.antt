-- DEMAND 3, its claims, and all of it as one statement over every list of calls.
use Rattle.std.specs.Prelude.{ℕ, zero, suc, ◌*◌, ◌≤◌, ◌<◌, List, [], ◌++◌, true, false, length, get_or, take, drop, ◌≡◌, ◌↔◌, ◌⊎◌, ◌≢◌}
use Rattle.std.proofs.Math.Option.{none}
use Rattle.bus_rules.specs.Frames.{content}
use Rattle.bridge_rules.specs.Answers.{Answer, Buffers, plain}
use Rattle.bridge_rules.specs.Opening.{is_read, is_write, is_check, ask_count, ask_given}
use Rattle.bridge_rules.specs.Call.{its_own, Call, opening, turn, frame, status, bytes, close, reset}
use Rattle.bridge_rules.specs.Run.{Run, answer_to, answer, Shaped, Transfer, ticket, slot_of, Stands, chunks, turns, status_at, shown_at, Done, GivenUp}
use Rattle.bridge_rules.specs.Run.{Different, turns_each, len_of}
use Rattle.bridge_rules.specs.Replies.{given, AllWritten, Sent, Resting, Replied, ThreeFailed}
use Rattle.bridge_rules.specs.Device.{Timeline, NotAfter, Meanwhile, range, Arrivals, Premises}

unfoldable pub join : (ℕ → List ℕ) → ℕ → List ℕ
join f zero = []
join f (suc n) = join f n ++ f n

-- the bytes of the frame that a call brings
abbrev pub brought : Call → List ℕ
brought (opening l a) = []
brought (turn l) = []
brought (frame l f) = content f
brought (status t) = []
brought (bytes l t) = []
brought (close t) = []
brought (reset o) = []

-- number 0, and these bytes
abbrev pub showing : List ℕ → Answer
showing bs = record { number = 0; ticket = 0; sent = none; shown = bs }

-- slot k is HELD after the first n calls, by a transfer that stands
abbrev pub HeldAt : (r : Run) → ℕ → ℕ → Type 0
HeldAt r k n = (y : Transfer r) × Stands r y n × (slot_of r y ≡ k)

-- the ledger's slots are the paper's: of the four, this one was not held at the opening, nor did it rest (such a slot "is not given to a new
-- transfer"), and each lower one was held or rested
pub record Places (r : Run) (x : Transfer r) : Type 0 where
  pub bound : slot_of r x < 4
  pub unheld : ¬ HeldAt r (slot_of r x) x.at
  pub rested : ¬ Resting r (slot_of r x) x.at
  pub lowest : (k : ℕ) → k < slot_of r x → HeldAt r k x.at ⊎ Resting r k x.at

-- of a read's and of a checked write's replies: one is answered 0, a chunk has one only, and they come in the chunks' order
pub record ReplyClaims (r : Run) (x : Transfer r) : Type 0 where
  pub taken : (c m : ℕ) → Replied r x c m → (answer r m).number ≡ 0
  pub once : (c m m' : ℕ) → Replied r x c m → Replied r x c m' → m ≡ m'
  pub ordered : (c m m' : ℕ) → Replied r x c m → Replied r x (suc c) m' → m < m'

pub record ReadClaims (r : Run) (x : Transfer r) (n : ℕ) : Type 0 where
  -- "A read is done, and shows its bytes, exactly when it stands and the request for each started eight bytes has a matching reply:
  -- those replies' bytes in order, each reply taken after this read sent its request." (That it stands is the premise of Claims; a
  -- reply is taken after its request by Replied.)
  pub done : Done r x n ↔ ((c : ℕ) → c < chunks r x → (m : ℕ) × (m < n) × Replied r x c m)
  -- the bytes that it shows; unless it is done it shows none
  pub shown : (m : ℕ → ℕ) → ((c : ℕ) → c < chunks r x → (m c < n) × Replied r x c (m c)) →
      shown_at r x n ≡ showing (join (λ c. brought (r.calls (m c))) (chunks r x))
  pub hidden : status_at r x n ≢ 0 → shown_at r x n ≡ plain (status_at r x n)
  -- as many as it asked for
  pub whole : Done r x n → length (shown_at r x n).shown ≡ ask_count x.ask
  -- "those bytes are the table's", at each moment meanwhile, of which there is one
  pub table : (t : Timeline) (τ₀ : ℕ) → Premises r x n t τ₀ → Done r x n → (τ : ℕ) → Meanwhile r x n t τ₀ τ →
      shown_at r x n ≡ showing (range r x (t.device τ))
  pub during : (t : Timeline) (τ₀ : ℕ) → Arrivals r x n t → NotAfter r x n t τ₀ → Done r x n → (τ : ℕ) × Meanwhile r x n t τ₀ τ

-- C-17: what demand 3 gains
pub record CheckedClaims (r : Run) (x : Transfer r) (n : ℕ) : Type 0 where
  -- "while it stands it is done exactly when its write was sent and every byte came back equal,"
  pub done : Done r x n ↔ (AllWritten r x n
      × ((c : ℕ) → c < chunks r x → (m : ℕ) × (m < n) × Replied r x c m × (brought (r.calls m) ≡ given r x c)))
  -- "different exactly when one came back other"
  pub different : Different r x n ↔ ((c : ℕ) × (m : ℕ) × (m < n) × Replied r x c m × (brought (r.calls m) ≢ given r x c))
  -- "it sends the write, then reads the same range back": each request is sent after all its CMDs
  pub sent_after : (c j : ℕ) → Sent r x c j → AllWritten r x j
  -- it "ends as different at the first reply that disagrees": no reply comes after that
  pub first_other : (c m c' m' : ℕ) → Replied r x c m → brought (r.calls m) ≢ given r x c → Replied r x c' m' → m' ≤ m
  -- "It shows no bytes"
  pub shown : shown_at r x n ≡ plain (status_at r x n)
  -- beyond the text: under a read's premises a done one says that the table's bytes are those that it was given, at each moment
  -- meanwhile, of which there is one
  pub table : (t : Timeline) (τ₀ : ℕ) → Premises r x n t τ₀ → Done r x n → (τ : ℕ) → Meanwhile r x n t τ₀ τ →
      range r x (t.device τ) ≡ ask_given x.ask
  pub during : (t : Timeline) (τ₀ : ℕ) → Arrivals r x n t → NotAfter r x n t τ₀ → Done r x n → (τ : ℕ) × Meanwhile r x n t τ₀ τ
  -- and a reply that disagrees, that they were not when the device answered
  pub table_other : (t : Timeline) → Arrivals r x n t → (c m : ℕ) → m < n → Replied r x c m → brought (r.calls m) ≢ given r x c →
      take (len_of r x c) (drop (8 * c) (range r x (t.device (t.answered m)))) ≢ given r x c

-- of a transfer that stands after the first n calls
pub record Claims (r : Run) (x : Transfer r) (n : ℕ) : Type 0 where
  pub places : Places r x
  -- its ticket is its own
  pub alone : (y : Transfer r) → Stands r y n → ticket r y ≡ ticket r x → y.at ≡ x.at
  -- "ends, done or given up, within 72 accepted turns for each started eight bytes"; "a checked write ends, done, given up or different,
  -- within 76"; otherwise it is not finished (15)
  pub ends : turns_each x.ask * chunks r x ≤ turns r x.at n → Done r x n ⊎ GivenUp r x n ⊎ Different r x n
  pub otherwise : status_at r x n ≢ 0 → status_at r x n ≢ 16 → status_at r x n ≢ 18 → status_at r x n ≡ 15
  pub not_different : is_check x.ask ≡ false → ¬ Different r x n
  -- "It has given up exactly when one of its requests was sent three times ..."
  pub gave_up : GivenUp r x n ↔ ThreeFailed r x n
  pub replies : ReplyClaims r x
  pub read : is_read x.ask ≡ true → ReadClaims r x n
  -- a write is done exactly when its CMD for every started eight bytes was yielded in order; it shows no bytes
  pub written : is_write x.ask ≡ true → Done r x n ↔ AllWritten r x n
  pub shown_of_write : is_write x.ask ≡ true → shown_at r x n ≡ plain (status_at r x n)
  pub checked : is_check x.ask ≡ true → CheckedClaims r x n

-- after the first n calls: of every transfer that stands; a ticket that no standing transfer has is unknown, so that what was
-- closed or reset is neither done nor shown; and each other ticket is a standing transfer's
pub record After (r : Run) (n : ℕ) : Type 0 where
  pub standing : (x : Transfer r) → Stands r x n → Claims r x n
  pub unknown : (t : ℕ) → ((x : Transfer r) → Stands r x n → ticket r x ≢ t) →
      (answer_to r n (status t) ≡ plain 14) × (answer_to r n (bytes its_own t) ≡ plain 14)
  pub known : (t : ℕ) → (answer_to r n (status t)).number ≢ 14 → (x : Transfer r) × Stands r x n × (ticket r x ≡ t)

-- the run of a list of calls; past its end stands a call that changes nothing
abbrev pub run_of : ℕ → Buffers → List Call → Run
run_of own b cs = record { own = own; buffers = b; calls = λ k. get_or cs k (status 0) }

-- DEMAND 3: from the fresh bridge of any own number and any two buffers of 512 bytes, of every list of calls, at each place in it
abbrev pub Demand3 : Type 0
Demand3 =
    (own : ℕ) → own ≤ 15 → (b : Buffers) → length b.first ≡ 512 → length b.second ≡ 512 → (cs : List Call) →
    ((k : ℕ) → k < length cs → Shaped (get_or cs k (status 0))) →
    (n : ℕ) → n ≤ length cs → After (run_of own b cs) n
