-- What C sees of what the holder and the reader of request bytes hand back.
use Rattle.std.specs.Prelude.{Option, Some, None, Result, Ok, Err}
use Rattle.std.specs.Int.{from_bool}
use Rattle.wire.specs.declared.refusal.Refusal.{Refusal}
use Rattle.wire.specs.Refusals.{code}
use Rattle.bus_rules.specs.declared.RequestRead.{RequestRead}
use Rattle.bus_rules.specs.declared.Served.{Served}
use Rattle.bus_rules.specs.declared.HolderAnswer.{HolderAnswer}
use Rattle.bus_rules.specs.Holder.{no_answer, answer_with}
use Rattle.bus.specs.declared.views.Asked.{Asked}
use Rattle.bus.specs.declared.views.Reply.{Reply}
use Rattle.bus.specs.declared.views.Answered.{Answered}

-- the mark is 1 or 0
abbrev pub as_request_read : Asked → RequestRead
as_request_read q = record { request = q.request; clear = from_bool q.clear }

abbrev pub as_reply : Reply → Served
as_reply r = answer_with (from_bool r.clear) r.frame

-- a refusal, and a frame that is served without an answer frame, have no frame
abbrev pub as_served : Result (Option Reply) Refusal → Served
as_served (Ok (Some r)) = as_reply r
as_served (Ok None) = no_answer 0
as_served (Err e) = no_answer (code e)

abbrev pub as_answer : Answered → HolderAnswer
as_answer a = record { served = as_served a.served; state = a.state }
