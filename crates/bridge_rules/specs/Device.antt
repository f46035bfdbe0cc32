-- DEMAND 3, continued: the device's own replies, and the premises of its last sentence.
use Rattle.std.specs.Prelude.{ℕ, ◌≤◌, ◌<◌, List, true, ◌≡◌}
use Rattle.std.proofs.Math.Option.{some}
use Rattle.bus_rules.specs.Ident.{id_from}
use Rattle.bus_rules.specs.Frames.{content}
use Rattle.bus_rules.specs.Device.{Device, SameTables, range_of}
use Rattle.bus_rules.specs.Holder.{device_after, Gives}
use Rattle.bus_rules.specs.declared.Frame.{Frame}
use Rattle.bridge_rules.specs.Opening.{ask_device, ask_table, ask_offset, ask_count}
use Rattle.bridge_rules.specs.Incoming.{content_number}
use Rattle.bridge_rules.specs.Call.{its_own, frame}
use Rattle.bridge_rules.specs.Run.{Run, answer, ledger, Transfer, Resetting, accepted, turns}
use Rattle.bridge_rules.specs.Replies.{Sent, Replied}

-- ── "A reply is the device's own if the holder's rules give it for a request sent earlier, from the device's memory when
-- it answered, between the two." ─────────────────────────────────────────────────────────────────────────────────────

-- a timeline: when each event was, what the device was at each moment, and for each event at which a reply arrives the
-- turn whose request it answers and the moment at which the device answered; at that moment it is the device after its answer
pub record Timeline : Type 0 where
  pub when : ℕ → ℕ
  pub device : ℕ → Device
  pub asked : ℕ → ℕ
  pub answered : ℕ → ℕ

-- "each reply arriving under its number": between the opening and a reply that the read took before event n, frame f arrives at
-- event m with the asked device as its sender, and neither 10 nor 1 to 5 refuses it, so it is an RSP to the bridge
pub record Arrives (r : Run) (x : Transfer r) (n m : ℕ) (f : Frame) : Type 0 where
  pub since : x.at < m
  pub c : ℕ
  pub m' : ℕ
  pub before : m' < n
  pub last : Replied r x c m'
  pub until : m ≤ m'
  pub call : r.calls m ≡ frame its_own f
  pub passes : content_number (ledger r m).own f ≡ 0
  pub device : id_from f.id ≡ ask_device x.ask

-- it is THE DEVICE'S OWN, unaltered, to a request that these calls sent: the holder's rules (demand 2) give it for that request.
-- (The paper asks for `since_asked` and `same_len`; the proof does without them.)
pub record Own (r : Run) (t : Timeline) (m : ℕ) (f : Frame) : Type 0 where
  pub request : Frame
  pub reply : Frame
  -- the device before it served the request
  pub before : Device
  pub earlier : t.asked m < m
  pub turned : accepted r (t.asked m) ≡ true
  pub yields : (answer r (t.asked m)).sent ≡ some request
  pub since_asked : t.when (t.asked m) ≤ t.answered m
  pub until_arrived : t.answered m ≤ t.when m
  pub gives : Gives before request reply
  pub after : t.device (t.answered m) ≡ device_after before request
  pub same_id : f.id ≡ reply.id
  pub same_len : f.len ≡ reply.len
  pub same_bytes : content f ≡ content reply

-- ── "Meanwhile: from its first answer to this read until that is done; a changed directory counts as a write; the
-- table's bytes are the range's then." ───────────────────────────────────────────────────────────────────────────────

-- moment τ₀ is not after any answer that the read took; the device's first answer to this read, taken or lost, is such a moment
-- (`TakenAnswers` of Corollaries: what it took are answers to this read)
abbrev pub NotAfter : (r : Run) → Transfer r → ℕ → Timeline → ℕ → Type 0
NotAfter r x n t τ₀ = (c m : ℕ) → m < n → Replied r x c m → τ₀ ≤ t.answered m

-- moment τ is MEANWHILE: not before τ₀, nor after the arrival of a reply that the read took, by the last of which it is done
pub record Meanwhile (r : Run) (x : Transfer r) (n : ℕ) (t : Timeline) (τ₀ τ : ℕ) : Type 0 where
  pub since : τ₀ ≤ τ
  pub c : ℕ
  pub m : ℕ
  pub before : m < n
  pub last : Replied r x c m
  pub until : τ ≤ t.when m

-- THE TABLE'S BYTES: those of the asked range, in a device as it is at a moment
unfoldable pub range : (r : Run) → Transfer r → Device → List ℕ
range r x d = range_of d (ask_table x.ask) (ask_offset x.ask) (ask_count x.ask)

-- C-19: the premise "no reply to a closed or reset transfer arrives" becomes "every reply arrives before the 60th turn after its
-- request was sent, or never"
abbrev pub Prompt : (r : Run) → Transfer r → ℕ → Timeline → Type 0
Prompt r x n t = (m : ℕ) (f : Frame) → Arrives r x n m f → turns r (t.asked m) m < 60

-- "reset still clears it, so the premise also asks for no request in the last 60 turns before a reset": of a request at j, at least 60
-- turns follow before a reset at q
abbrev pub Quiet : Run → ℕ → Type 0
Quiet r n = (q : ℕ) → q < n → Resetting r q → (y : Transfer r) (c j : ℕ) → j < q → Sent r y c j → 60 ≤ turns r j q

-- what arrives: "each reply arriving under its number is its own, unaltered, to a request these calls sent", and C-19's two, on late replies
-- and on resets
pub record Arrivals (r : Run) (x : Transfer r) (n : ℕ) (t : Timeline) : Type 0 where
  pub own : (m : ℕ) (f : Frame) → Arrives r x n m f → Own r t m f
  pub prompt : Prompt r x n t
  pub quiet : Quiet r n

-- "its range isn't written" between any two moments of a set, and "a changed directory counts as a write". (The paper asks for
-- `same_tables`; the proof does without it, for `range` speaks of the range where the directory puts it.) C-13: "a reload after the device sent the read's
-- first answer counts as a write": one that changes the range is a change of it; one that changes no byte of it does no harm, and may happen here.
pub record Unwritten (r : Run) (x : Transfer r) (t : Timeline) (During : ℕ → Type 0) : Type 0 where
  pub same_tables : (τ τ' : ℕ) → During τ → During τ' → SameTables (t.device τ) (t.device τ')
  pub unchanged : (τ τ' : ℕ) → During τ → During τ' → range r x (t.device τ) ≡ range r x (t.device τ')

-- the premises of demand 3's last sentence, from moment τ₀ on
pub record Premises (r : Run) (x : Transfer r) (n : ℕ) (t : Timeline) (τ₀ : ℕ) : Type 0 where
  pub arrivals : Arrivals r x n t
  pub first : NotAfter r x n t τ₀
  pub unwritten : Unwritten r x t (Meanwhile r x n t τ₀)
