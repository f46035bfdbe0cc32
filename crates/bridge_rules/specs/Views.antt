-- What the code's calls hand back, in the words of the definitions: a search's option, and C's structs, where every other number of a
-- refusal is 0.
use Rattle.std.specs.Prelude.{ℕ, List, [], Option, Some, None, Result, Ok, Err}
use Rattle.std.proofs.Math.Option as found
use Rattle.wire.specs.declared.refusal.Refusal.{Refusal}
use Rattle.wire.specs.Refusals.{code, number_of, given}
use Rattle.bus_rules.specs.declared.Frame.{Frame}
use Rattle.bridge_rules.specs.declared.After.{After}
use Rattle.bridge_rules.specs.Answers.{Opened, Yielded, Stepped, Changed, yielded_of}

-- what a search finds, or a turn sends
abbrev pub as_found : {A : Type 0} → Option A → found.Option A
as_found None = found.none
as_found (Some x) = found.some x

-- an opening's ticket
abbrev pub as_opened : After ℕ → Opened
as_opened r = record { bridge = r.bridge; ticket = (given 0 r.answer).1; number = number_of r.answer }

-- a turn's frame, if it sends one
abbrev pub as_yielded : Result (Option Frame) Refusal → Yielded
as_yielded (Ok f) = yielded_of 0 (as_found f)
as_yielded (Err e) = yielded_of (code e) found.none

abbrev pub as_stepped : After (Option Frame) → Stepped
as_stepped r = record { bridge = r.bridge; answer = as_yielded r.answer }

-- a closing or a reset, which give no value
abbrev pub as_changed : After (Unit {0}) → Changed
as_changed r = record { bridge = r.bridge; number = number_of r.answer }
