-- 01, "FRD": "Writers mirror it: 23 for a wrong record length or a signature not of 63 bytes, then 27." Below, l is the output length, c a counter
-- and rec a record.
use Rattle.std.specs.Prelude.{ℕ, not, List, ◌∷◌, ◌++◌, eqb, ltb, length}
use Rattle.wire.specs.Order.{◌if◌else◌}
use Rattle.wire.specs.BigEndian.{be_bytes}
use Rattle.frd_rules.specs.Header.{header_len, signature_len, name, version}

-- a header's bytes
unfoldable pub header_bytes : ℕ → List ℕ → ℕ → List ℕ
header_bytes time signature l =
    name ++ (be_bytes 2 version ++ (be_bytes 4 time ++ (signature ++ (be_bytes 4 header_len ++ be_bytes 2 l))))

-- a data block's bytes with a counter
unfoldable pub data_bytes : ℕ → List ℕ → List ℕ
data_bytes c rec = 1 ∷ c ∷ rec

-- a time block's bytes with a counter
unfoldable pub time_bytes : ℕ → ℕ → List ℕ
time_bytes c time = 2 ∷ c ∷ be_bytes 4 time

-- 27: the output has no room for these bytes
unfoldable pub room_number : List ℕ → ℕ → ℕ
room_number bytes room = 27 if ltb room (length bytes) else 0

-- a header: 23 for a signature not of 63 bytes, then 27
unfoldable pub write_header_number : ℕ → List ℕ → ℕ → ℕ → ℕ
write_header_number time signature l room =
    23 if not (eqb (length signature) signature_len)
    else room_number (header_bytes time signature l) room

-- a data block: 23 for a wrong record length, then 27
unfoldable pub write_data_number : ℕ → ℕ → List ℕ → ℕ → ℕ
write_data_number l c rec room =
    23 if not (eqb (length rec) l)
    else room_number (data_bytes c rec) room

-- a time block: 27 alone
unfoldable pub write_time_number : (c time room : ℕ) → ℕ
write_time_number c time room = room_number (time_bytes c time) room
