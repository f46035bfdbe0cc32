-- The header of an MLG, and the number that refuses it. 01: "All numbers big-endian. Header 24 bytes: name `4D 4C 56 4C 47 00`, version 2
-- (16 bits), time (32), info start (32), data begin (32), record length (16), field count n (16). Fields of 89 bytes follow."
-- All by the version's layout, which gives the header's 24 bytes, info start's 4 and a field's 89.
use Rattle.std.specs.Prelude.{ℕ, ◌+◌, ◌*◌, ◌-◌, not, List, [], ◌∷◌, eqb, leb, ltb, length, take, drop, Result}
use Rattle.wire.specs.Refusals.{given, checked}
use Rattle.wire.specs.Order.{◌if◌else◌, ◌or_else◌}
use Rattle.wire.specs.BigEndian.{be_of, be_at}
use Rattle.wire.specs.Text.{zeros}
use Rattle.mlg_rules.specs.Layout.{served, header_len, info_len, field_len}
use Rattle.mlg_rules.specs.Fields.{fields_number, sizes}
use Rattle.mlg_rules.specs.declared.Header.{Header}
use Rattle.wire.specs.declared.refusal.Refusal.{Refusal}

-- the name
abbrev pub log_name : List ℕ
log_name = 0x4D ∷ 0x4C ∷ 0x56 ∷ 0x4C ∷ 0x47 ∷ 0 ∷ []

abbrev pub version_in : List ℕ → ℕ
version_in f = be_at 2 f 6

-- the header's numbers, as they stand
unfoldable pub numbers_of : List ℕ → Header
numbers_of f =
    record {
      version = version_in f;
      time = be_at 4 f 8;
      info = be_at (info_len (version_in f)) f 12;
      begin = be_at 4 f (12 + info_len (version_in f));
      size = be_at 2 f (16 + info_len (version_in f));
      count = be_at 2 f (18 + info_len (version_in f));
    }

-- the fields' end
unfoldable pub fields_end : Header → ℕ
fields_end h = header_len h.version + field_len h.version * h.count

-- "Order: 20 (under 24 bytes), 21, 22,"
unfoldable pub name_number : List ℕ → ℕ
name_number f =
    20 if ltb (length f) (header_len 2) else
    21 if not (eqb (be_at 6 f 0) (be_of log_name)) else
    22 if not (served (version_in f)) else 0

-- "20 (fields cut), 23 (data begin before the fields' end or past the file), 23 (info start not 0 and not between the fields' end and data
-- begin, which is excluded)", for a file of n bytes
unfoldable pub places_number : ℕ → Header → ℕ
places_number n h =
    20 if ltb n (fields_end h) else
    23 if ltb h.begin (fields_end h) else
    23 if ltb n h.begin else
    0 if eqb h.info 0 else
    23 if ltb h.info (fields_end h) else
    23 if leb h.begin h.info else 0

-- "Then 23 if record length isn't the sum of field sizes; 28 if info has no zero before data begin."
unfoldable pub last_number : Header → List ℕ → List ℕ → ℕ
last_number h fields area =
    23 if not (eqb (sizes h.version h.count fields) h.size) else
    0 if eqb h.info 0 else
    28 if eqb (zeros (drop (h.info - fields_end h) area)) 0 else 0

-- what is checked of the fields' bytes and of the area from their end to data begin, by a reader and by a writer
unfoldable pub body_number : Header → List ℕ → List ℕ → ℕ
body_number h fields area = fields_number h.version (fields_end h) area h.count fields or_else last_number h fields area

-- a file's bytes from the header's end, and from the fields' end to data begin
abbrev pub fields_from : List ℕ → Header → List ℕ
fields_from f h = drop (header_len h.version) f

unfoldable pub area_in : List ℕ → Header → List ℕ
area_in f h = take (h.begin - fields_end h) (drop (fields_end h) f)

-- the whole order
unfoldable pub read_header_number : List ℕ → ℕ
read_header_number f =
    name_number f
    or_else places_number (length f) (numbers_of f)
    or_else body_number (numbers_of f) (fields_from f (numbers_of f)) (area_in f (numbers_of f))

-- what the reader answers
unfoldable pub read_header_of : List ℕ → Result Header Refusal
read_header_of f = checked (read_header_number f) (numbers_of f)

-- the paper's number and values of each case: in a refusal every other number is 0
abbrev pub no_header : Header
no_header = record { version = 0; time = 0; info = 0; begin = 0; size = 0; count = 0 }

abbrev pub head_answer : Result Header Refusal → ℕ × Header
head_answer r = given no_header r
