-- A call with its arguments, and what it does to the bridge and its buffers.
use Rattle.std.specs.Prelude.{ℕ, List}
use Rattle.bus_rules.specs.declared.Frame.{Frame}
use Rattle.bridge_rules.specs.declared.Bridge.{Bridge}
use Rattle.bridge_rules.specs.declared.Changed.{Changed}
use Rattle.bridge_rules.specs.Answers.{Buffers, Result, plain}
use Rattle.bridge_rules.specs.Opening.{Ask, open_of}
use Rattle.bridge_rules.specs.Turn.{turn_of}
use Rattle.bridge_rules.specs.Incoming.{frame_of}
use Rattle.bridge_rules.specs.Ending.{status_of, bytes_of, close_of, reset_of}

-- what a call is lent, both buffers or the first alone: the bridge's own, or others
pub data Lent (A : Type 0) : Type 0 where
  its_own : Lent A
  other : A → Lent A

-- a call with its arguments
pub data Call : Type 0 where
  opening : Lent Buffers → Ask → Call
  turn : Lent Buffers → Call
  frame : Lent Buffers → Frame → Call
  status : (ticket : ℕ) → Call
  bytes : Lent (List ℕ) → (ticket : ℕ) → Call
  close : (ticket : ℕ) → Call
  reset : (own : ℕ) → Call

-- a call on the bridge's own buffers b, or on others; b is kept where others were lent
abbrev pub lend : (Buffers → Result) → Buffers → Lent Buffers → Result
lend call b its_own = call b
lend call b (other l) = let r : Result = call l in record { answer = r.answer; state = r.state; buffers = b }

abbrev pub lent_list : List ℕ → Lent (List ℕ) → List ℕ
lent_list b its_own = b
lent_list b (other l) = l

-- a call that takes no buffer
abbrev pub keeping : Buffers → Changed → Result
keeping b c = record { answer = plain c.number; state = c.bridge; buffers = b }

-- what a call does to the bridge s with its buffers b; the bytes call takes the first alone
unfoldable pub step : Bridge → Buffers → Call → Result
step s b (opening l a) = lend (λ x. open_of s x a) b l
step s b (turn l) = lend (turn_of s) b l
step s b (frame l f) = lend (λ x. frame_of s x f) b l
step s b (status t) = record { answer = plain (status_of s t); state = s; buffers = b }
step s b (bytes l t) = record { answer = bytes_of s (lent_list b.first l) t; state = s; buffers = b }
step s b (close t) = keeping b (close_of s t)
step s b (reset o) = keeping b (reset_of s o)
