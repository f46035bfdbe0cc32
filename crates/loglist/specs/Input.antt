-- What reading promises: the bytes read lie within the buffer. No contract can say which bytes a call of the system reads.
use Rattle.std.specs.Prelude.{ℕ, ◌≤◌, List, length, Result, Ok, Err}

abbrev pub Within : {E : Type 0} → Result ℕ E → List ℕ → Type 0
Within (Ok n) buffer = n ≤ length buffer
Within (Err _) buffer = Unit
