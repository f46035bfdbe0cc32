-- "A writer hands back the length written and leaves the rest of its output as found. Every refusal leaves .. lent memory unchanged ..;
-- every other number in it is 0"
use Rattle.std.specs.Prelude.{ℕ, zero, suc, List, ◌++◌, length, drop, Result, Ok, Err}
use Rattle.wire.specs.declared.refusal.Refusal.{Refusal}
use Rattle.wire.specs.Refusals.{code}
use Rattle.wire.specs.declared.views.Written.{Written}

-- what a writer of these bytes hands back, where the given number refuses it or is 0
unfoldable pub wrote : ℕ → List ℕ → Written
wrote zero bs = record { number = 0; len = length bs }
wrote (suc n) bs = record { number = suc n; len = 0 }

-- and what it leaves in its output
unfoldable pub leaves : ℕ → List ℕ → List ℕ → List ℕ
leaves zero bs out = bs ++ drop (length bs) out
leaves (suc n) bs out = out

-- a writer's answer as C sees it: the paper's number, and the length written
abbrev pub as_written : Result ℕ Refusal → Written
as_written (Ok n) = record { number = 0; len = n }
as_written (Err e) = record { number = code e; len = 0 }
