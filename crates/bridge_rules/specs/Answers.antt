-- What a call answers, and what the code's calls hand back of it.
use Rattle.std.specs.Prelude.{ℕ, List, [], Bool, cond, not, ◌&&◌, length, eqb}
use Rattle.std.proofs.Math.Option.{Option, none, some}
use Rattle.wire.specs.Order.{◌if◌else◌}
use Rattle.bus_rules.specs.Frames.{no_frame}
use Rattle.bus_rules.specs.declared.Frame.{Frame}
use Rattle.bridge_rules.specs.declared.Bridge.{Bridge}
pub use Rattle.bridge_rules.specs.declared.Changed.{Changed}
pub use Rattle.bridge_rules.specs.declared.Opened.{Opened}
pub use Rattle.bridge_rules.specs.declared.Stepped.{Stepped}
pub use Rattle.bridge_rules.specs.declared.Yielded.{Yielded}
use Rattle.bridge_rules.specs.State.{sound}

-- what a call answers: a number, an opening's ticket, a turn's frame, the bytes call's part
pub record Answer : Type 0 where
  pub number : ℕ
  pub ticket : ℕ
  pub sent : Option Frame
  pub shown : List ℕ

-- the bridge's lent buffers: 01's, and C-17's "second lent buffer", which holds what checked writes send
pub record Buffers : Type 0 where
  pub first : List ℕ
  pub second : List ℕ

abbrev pub both : (first second : List ℕ) → Buffers
both a b = record { first = a; second = b }

-- buffers of exactly 512 bytes each
abbrev pub right_lengths : Buffers → Bool
right_lengths b = eqb (length b.first) 512 && eqb (length b.second) 512

-- an answer with the state and the buffers after the call
pub record Result : Type 0 where
  pub answer : Answer
  pub state : Bridge
  pub buffers : Buffers

-- a number alone
abbrev pub plain : ℕ → Answer
plain n = record { number = n; ticket = 0; sent = none; shown = [] }

-- a refusal leaves state and lent memory unchanged and yields no frame; every other number in it is 0
abbrev pub unless : ℕ → Result → Bridge → Buffers → Result
unless n r s b = cond (eqb n 0) r (record { answer = plain n; state = s; buffers = b })

-- the same of a call that takes no buffer
abbrev pub changed_by : ℕ → Bridge → Bridge → Changed
changed_by n after before = record { bridge = cond (eqb n 0) after before; number = n }

-- 11: state unsound; 10: lent memory of wrong length, "for the second buffer" too, "which every opening, turn and frame takes"; `ok` says
-- whether both lengths are right
unfoldable pub lent_number : Bridge → Bool → ℕ
lent_number s ok = 11 if not (sound s) else 10 if not ok else 0

-- an opening's state, ticket and number
unfoldable pub opened_of : Result → Opened
opened_of r = record { bridge = r.state; ticket = r.answer.ticket; number = r.answer.number }

-- a number with a turn's frame; without one, all numbers of the frame are 0
abbrev pub yielded_of : ℕ → Option Frame → Yielded
yielded_of n none = record { number = n; frames = 0; frame = no_frame }
yielded_of n (some f) = record { number = n; frames = 1; frame = f }

-- a turn's or a frame's state and answer
unfoldable pub stepped_of : Result → Stepped
stepped_of r = record { bridge = r.state; answer = yielded_of r.answer.number r.answer.sent }
