-- Bytes copied into lent memory.
use Rattle.std.specs.Prelude.{ℕ, ◌+◌, cond, List, ◌++◌, length, take, drop, nat_le}

-- out with the bytes bs from the place at on, the rest as found
unfoldable pub put_at : List ℕ → ℕ → List ℕ → List ℕ
put_at out at bs = take at out ++ bs ++ drop (at + length bs) out

-- what `put` leaves: nothing changes where the bytes do not fit
unfoldable pub put_of : List ℕ → ℕ → List ℕ → List ℕ
put_of out at bs = cond (nat_le (at + length bs) (length out)) (put_at out at bs) out
