-- The parts of a file whose header reads as h, and the calls that hand them out as places and lengths.
use Rattle.std.specs.Prelude.{ℕ, ◌+◌, ◌*◌, ◌-◌, cond, List, eqb, leb, drop}
use Rattle.wire.specs.Order.{◌if◌else◌, ◌or_else◌}
use Rattle.wire.specs.Text.{text_len}
use Rattle.wire.specs.Log.{span_with}
use Rattle.mlg_rules.specs.Layout.{header_len, field_len}
use Rattle.mlg_rules.specs.Header.{fields_end, read_header_number, numbers_of}
use Rattle.mlg_rules.specs.declared.Header.{Header}
use Rattle.wire.specs.declared.views.Span.{Span}

-- field i's place; its bytes are as many as the layout's fields have
abbrev pub field_place : Header → ℕ → ℕ
field_place h i = header_len h.version + field_len h.version * i

-- the names area: from the fields' end to info, or to data begin where there is no info
unfoldable pub names_end : Header → ℕ
names_end h = cond (eqb h.info 0) h.begin h.info

-- the info text: from the info start to its zero, none where the info start is 0
unfoldable pub info_length : List ℕ → Header → ℕ
info_length f h = cond (eqb h.info 0) 0 (text_len (drop h.info f))

-- each refuses as the header reader does

-- all fields, back to back
unfoldable pub fields_span_of : List ℕ → Span
fields_span_of f = span_with (read_header_number f) (header_len (numbers_of f).version) (field_len (numbers_of f).version * (numbers_of f).count)

-- one field; 23 for one that is not there
unfoldable pub field_span_of : List ℕ → ℕ → Span
field_span_of f i =
    span_with (read_header_number f or_else 23 if leb (numbers_of f).count i else 0) (field_place (numbers_of f) i) (field_len (numbers_of f).version)

unfoldable pub names_span_of : List ℕ → Span
names_span_of f = span_with (read_header_number f) (fields_end (numbers_of f)) (names_end (numbers_of f) - fields_end (numbers_of f))

unfoldable pub info_span_of : List ℕ → Span
info_span_of f = span_with (read_header_number f) (numbers_of f).info (info_length f (numbers_of f))
