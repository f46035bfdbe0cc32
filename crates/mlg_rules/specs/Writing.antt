-- What the writers write, and the numbers that refuse it.
use Rattle.std.specs.Prelude.{ℕ, ◌+◌, ◌/◌, ◌%◌, not, List, [], ◌∷◌, ◌++◌, eqb, ltb, length, drop, replicate}
use Rattle.wire.specs.Order.{◌if◌else◌, ◌or_else◌}
use Rattle.wire.specs.BigEndian.{be_bytes}
use Rattle.wire.specs.Sum.{sum_of}
use Rattle.wire.specs.Text.{text_len}
use Rattle.mlg_rules.specs.Layout.{header_len, info_len, field_len}
use Rattle.mlg_rules.specs.Area.{info_start, area_of}
use Rattle.mlg_rules.specs.Fields.{sizes}
use Rattle.mlg_rules.specs.Header.{log_name, body_number}
use Rattle.mlg_rules.specs.declared.Header.{Header}

-- "The header writer takes time, fields, a names area and info; lays them back to back, adds info's zero, or for empty info uses info start 0
-- and no zero." Here v is the version that it writes.

-- the header's numbers in bytes
unfoldable pub number_bytes : Header → List ℕ
number_bytes h =
    log_name
    ++ (be_bytes 2 h.version
    ++ (be_bytes 4 h.time
    ++ (be_bytes (info_len h.version) h.info
    ++ (be_bytes 4 h.begin
    ++ (be_bytes 2 h.size
    ++ be_bytes 2 h.count)))))

-- the numbers of the header with these fields, names and info
unfoldable pub header_for : ℕ → ℕ → List ℕ → List ℕ → List ℕ → Header
header_for v time fields names info =
    record {
      version = v;
      time = time;
      info = info_start (header_len v + length fields + length names) info;
      begin = header_len v + length fields + length (area_of names info);
      size = sizes v (length fields / field_len v) fields;
      count = length fields / field_len v;
    }

-- the header with its fields, names and info, back to back
unfoldable pub header_bytes : ℕ → ℕ → List ℕ → List ℕ → List ℕ → List ℕ
header_bytes v time fields names info = number_bytes (header_for v time fields names info) ++ (fields ++ area_of names info)

-- "It refuses 23 (fields not a multiple of 89, over 65,535 of them, sizes summing over 65,535 (a bad type counts 0), or file over 2^32-1), 28
-- (zero in info),"
unfoldable pub lengths_number : ℕ → List ℕ → List ℕ → List ℕ → ℕ
lengths_number v fields names info =
    23 if not (eqb (length fields % field_len v) 0) else
    23 if ltb 65535 (length fields / field_len v) else
    23 if ltb 65535 (sizes v (length fields / field_len v) fields) else
    23 if ltb 4294967295 (header_len v + length fields + length (area_of names info)) else
    28 if ltb (text_len info) (length info) else 0

-- "then as the reader, then 27", for an output of the given room
unfoldable pub write_header_number : ℕ → ℕ → List ℕ → List ℕ → List ℕ → ℕ → ℕ
write_header_number v time fields names info room =
    lengths_number v fields names info
    or_else body_number (header_for v time fields names info) fields (area_of names info)
    or_else 27 if ltb room (length (header_bytes v time fields names info)) else 0

-- "Data block: type 0, counter, time (16), record, then the sum of the record's bytes, modulo 256." Here c is the counter.
unfoldable pub start_bytes : ℕ → ℕ → ℕ → List ℕ
start_bytes type c time = type ∷ c ∷ be_bytes 2 time

unfoldable pub data_bytes : ℕ → ℕ → List ℕ → List ℕ
data_bytes c time rec = (start_bytes 0 c time ++ rec) ++ (sum_of rec ∷ [])

-- "Mark: type 1, counter, time, 50 bytes of text". "Marks are zero-padded."
unfoldable pub padded_text : List ℕ → List ℕ
padded_text t = t ++ drop (length t) (replicate 50 0)

unfoldable pub mark_bytes : ℕ → ℕ → List ℕ → List ℕ
mark_bytes c time t = start_bytes 1 c time ++ padded_text t

-- "Block writers take the number of earlier blocks: 23 for a record of the wrong length, 28 for mark text over 49 bytes or holding a zero, then
-- 27." The record length is l.
unfoldable pub write_data_number : ℕ → List ℕ → ℕ → ℕ
write_data_number l rec room = 23 if not (eqb (length rec) l) else 27 if ltb room (length rec + 5) else 0

unfoldable pub write_mark_number : List ℕ → ℕ → ℕ
write_mark_number t room = 28 if ltb 49 (length t) else 28 if ltb (text_len t) (length t) else 27 if ltb room 54 else 0
