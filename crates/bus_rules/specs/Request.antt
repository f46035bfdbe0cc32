-- 01 "Request bytes", which 02, C-16 reads with the reserved bits ignored.
use Rattle.std.specs.Prelude.{ℕ, zero, suc, ◌+◌, ◌*◌, ◌/◌, ◌%◌, ◌&&◌, List, [], ◌∷◌, ltb, eqb, replicate, Result, Ok, Err}
use Rattle.wire.specs.Order.{◌if◌else◌}
use Rattle.wire.specs.declared.refusal.Refusal.{Refusal}
use Rattle.wire.specs.Refusals.{code}
pub use Rattle.bus_rules.specs.declared.Request.{Request}
pub use Rattle.bus_rules.specs.declared.RequestRead.{RequestRead}
use Rattle.bus_rules.specs.declared.RequestBytes.{RequestBytes}

-- the first byte is the reply's table (top three bits 0); the second is the reply offset divided by 8; the third holds the
-- offset's low three bits in bits 7-5, 0 in bit 4, the count in bits 3-0. C-16: "Read requests with the reserved bits ignored"
unfoldable pub request_of : (a b c : ℕ) → Request
request_of a b c = record { table = a % 32; offset = b * 8 + c / 32; count = c % 16 }

-- "and have the reading say whether they were clear": 1 if the first byte's top three bits and bit 4 of the third are 0, else 0
unfoldable pub clear_of : (a c : ℕ) → ℕ
clear_of a c = 1 if eqb (a / 32) 0 && eqb (c / 16 % 2) 0 else 0

-- what three bytes ask for, and that mark
unfoldable pub read_request_of : (a b c : ℕ) → RequestRead
read_request_of a b c = record { request = request_of a b c; clear = clear_of a c }

-- the bytes that ask for a count of bytes to a table and an offset. "Packing still writes zeros" into the reserved bits
unfoldable pub request : (table offset count : ℕ) → List ℕ
request table offset count = table ∷ offset / 8 ∷ (offset % 8 * 32 + count) ∷ []

-- parts that the bytes can't hold. 01 gives no number for them; ours: 7 table, 9 count, 8 offset
unfoldable pub request_bytes_number : Request → ℕ
request_bytes_number q = 7 if ltb 31 q.table else 9 if ltb 15 q.count else 8 if ltb 2047 q.offset else 0

unfoldable pub wrote_request : ℕ → List ℕ → RequestBytes
wrote_request zero bs = record { number = 0; bytes = bs }
wrote_request (suc n) bs = record { number = suc n; bytes = replicate 3 0 }

unfoldable pub request_bytes_of : Request → RequestBytes
request_bytes_of q = wrote_request (request_bytes_number q) (request q.table q.offset q.count)

-- what C sees of the bytes or a refusal of them
abbrev pub as_request_bytes : Result (List ℕ) Refusal → RequestBytes
as_request_bytes (Ok bs) = record { number = 0; bytes = bs }
as_request_bytes (Err e) = record { number = code e; bytes = replicate 3 0 }
