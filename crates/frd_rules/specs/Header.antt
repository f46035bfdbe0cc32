-- 01, "FRD": "Header 81 bytes: `46 52 44 00 00 00`, version 1 (16), time (32), signature (63 bytes, free), data begin (32, must be 81), output
-- length L (16)." Below, f is a file.
use Rattle.std.specs.Prelude.{ℕ, not, List, [], ◌∷◌, eqb, ltb, length, take, drop, Result}
use Rattle.wire.specs.Order.{◌if◌else◌}
use Rattle.wire.specs.Refusals.{given, checked}
use Rattle.wire.specs.BigEndian.{be_of, be_at}
use Rattle.wire.specs.Log.{span_with}
use Rattle.wire.specs.declared.refusal.Refusal.{Refusal}
use Rattle.wire.specs.declared.views.Span.{Span}
use Rattle.frd_rules.specs.declared.Header.{Header}

-- the header's length, at which the data begin
abbrev pub header_len : ℕ
header_len = 81

-- the signature's place and length
abbrev pub signature_place : ℕ
signature_place = 12

abbrev pub signature_len : ℕ
signature_len = 63

-- the name
abbrev pub name : List ℕ
name = 0x46 ∷ 0x52 ∷ 0x44 ∷ 0 ∷ 0 ∷ 0 ∷ []

-- the version that is served
abbrev pub version : ℕ
version = 1

-- the header's numbers, as they stand in the file
unfoldable pub numbers_of : List ℕ → Header
numbers_of f =
    record {
      version = be_at 2 f 6;
      time = be_at 4 f 8;
      begin = be_at 4 f 75;
      size = be_at 2 f 79;
    }

-- the signature, a part of the file
unfoldable pub signature_in : List ℕ → List ℕ
signature_in f = take signature_len (drop signature_place f)

-- "Order: 20, 21, 22, 23": cut short, wrong name, version not served, data begin not 81
unfoldable pub read_header_number : List ℕ → ℕ
read_header_number f =
    20 if ltb (length f) header_len
    else 21 if not (eqb (be_at 6 f 0) (be_of name))
    else 22 if not (eqb (numbers_of f).version version)
    else 23 if not (eqb (numbers_of f).begin header_len)
    else 0

-- the header, or what refuses it
unfoldable pub read_header_of : List ℕ → Result Header Refusal
read_header_of f = checked (read_header_number f) (numbers_of f)

-- the paper's number and values of it: in a refusal every other number is 0
abbrev pub no_header : Header
no_header = record { version = 0; time = 0; begin = 0; size = 0 }

unfoldable pub head_answer : Result Header Refusal → ℕ × Header
head_answer r = given no_header r

-- where the signature stands, in a file whose header is not refused
unfoldable pub read_signature_of : List ℕ → Span
read_signature_of f = span_with (read_header_number f) signature_place signature_len
