-- Beside demand 3: what has ended stays so; premises on writes and on resets that ask for less; which answers a read takes; when a reset
-- may come.
use Rattle.std.specs.Prelude.{ℕ, ◌≤◌, ◌<◌, ◌≡◌, true}
use Rattle.bridge_rules.specs.Opening.{is_read}
use Rattle.bridge_rules.specs.State.{Frame, rest}
use Rattle.bridge_rules.specs.Run.{Run, state, Lawful, Transfer, Stands, Resetting, Done, GivenUp, Different, shown_at}
use Rattle.bridge_rules.specs.Replies.{Replied, Sent}
use Rattle.bridge_rules.specs.Device.{Timeline, range, Arrives, Own, Prompt, Quiet, Arrivals, Unwritten}
use Rattle.bridge_rules.specs.Demand3.{showing}

-- ── What has ended stays so while it stands ────────────────────────────────────────────────────────────────────────

pub record Stays (r : Run) (x : Transfer r) (n n' : ℕ) : Type 0 where
  pub done : Done r x n → Done r x n'
  pub given_up : GivenUp r x n → GivenUp r x n'
  pub different : Different r x n → Different r x n'
  -- and a done transfer shows the same
  pub shown : Done r x n → shown_at r x n' ≡ shown_at r x n

abbrev pub EndedStays : Type 0
EndedStays = (r : Run) → Lawful r → (x : Transfer r) (n n' : ℕ) → n ≤ n' → Stands r x n → Stands r x n' → Stays r x n n'

-- ── A narrower "meanwhile", so that the premise on writes asks for less ───────────────────────────────────────────

-- moment τ is not before the first answer that the read took, nor after its last reply arrived: an earlier answer that got lost does
-- not count
pub record SinceTaken (r : Run) (x : Transfer r) (n : ℕ) (t : Timeline) (τ : ℕ) : Type 0 where
  pub c : ℕ
  pub m : ℕ
  pub first_before : m < n
  pub first : Replied r x c m
  pub since : t.answered m ≤ τ
  pub c' : ℕ
  pub m' : ℕ
  pub before : m' < n
  pub last : Replied r x c' m'
  pub until : τ ≤ t.when m'

-- if the range isn't written between these, the bytes shown are the table's at each such moment, under a premise on what arrives
abbrev pub ShowsSince : ((r : Run) → Transfer r → ℕ → Timeline → Type 0) → Type 0
ShowsSince Arriving =
    (r : Run) → Lawful r → (x : Transfer r) (n : ℕ) → Stands r x n → is_read x.ask ≡ true → Done r x n →
    (t : Timeline) → Arriving r x n t → Unwritten r x t (SinceTaken r x n t) →
    (τ : ℕ) → SinceTaken r x n t τ → shown_at r x n ≡ showing (range r x (t.device τ))

abbrev pub NarrowMeanwhile : Type 0
NarrowMeanwhile = ShowsSince Arrivals

-- ── A premise on resets that asks for less ─────────────────────────────────────────────────────────────────────────

-- no reset is answered 0 between a request and the arrival of its reply; a reset after which no reply to an earlier request arrives may come
-- at any time
pub record ArrivalsUnreset (r : Run) (x : Transfer r) (n : ℕ) (t : Timeline) : Type 0 where
  pub own : (m : ℕ) (f : Frame) → Arrives r x n m f → Own r t m f
  pub prompt : Prompt r x n t
  pub unreset : (m : ℕ) (f : Frame) → Arrives r x n m f → (q : ℕ) → t.asked m < q → q < m → ¬ Resetting r q

abbrev pub NarrowResets : Type 0
NarrowResets = ShowsSince ArrivalsUnreset

-- ── What the read took are answers to this read ────────────────────────────────────────────────────────────────────

abbrev pub TakenAnswers : Type 0
TakenAnswers =
    (r : Run) → Lawful r → (x : Transfer r) (n : ℕ) (t : Timeline) → Arrivals r x n t →
    (c m : ℕ) → m < n → Replied r x c m → Sent r x c (t.asked m)

-- ── When a reset may come ──────────────────────────────────────────────────────────────────────────────────────────

-- before event q no slot rests, by the bridge that the call before it handed back
abbrev pub NoneRests : Run → ℕ → Type 0
NoneRests r q = (k : ℕ) → k < 4 → rest (state r q) k ≡ 0

-- a host that resets only then has seen to the premise on resets
abbrev pub QuietResets : Type 0
QuietResets = (r : Run) → Lawful r → (n : ℕ) → ((q : ℕ) → q < n → Resetting r q → NoneRests r q) → Quiet r n

-- all of it
pub record Corollaries : Type 0 where
  pub ended_stays : EndedStays
  pub narrow_meanwhile : NarrowMeanwhile
  pub narrow_resets : NarrowResets
  pub taken_answers : TakenAnswers
  pub quiet_resets : QuietResets
