-- 01 "Identifier and frame": the 29-bit identifier, by sums, products, quotients and remainders.
use Rattle.std.specs.Prelude.{ℕ, ◌+◌, ◌*◌, ◌/◌, ◌%◌, ◌^◌, not, List, [], ◌∷◌, leb, ltb, eqb, get_or, Result}
use Rattle.wire.specs.Order.{◌if◌else◌}
use Rattle.wire.specs.declared.refusal.Refusal.{Refusal}
use Rattle.wire.specs.Refusals.{checked}
pub use Rattle.bus_rules.specs.declared.Parts.{Parts}

-- 01's table from the low end, a row each: its lowest bit and its width
abbrev pub rows : List (ℕ × ℕ)
rows =
    -- "0-1: spare, must be 0"
    (0, 2)
    -- "2: table, bit 4"
    ∷ (2, 1)
    -- "3-6: table, bits 0-3"
    ∷ (3, 4)
    -- "7-10: to"
    ∷ (7, 4)
    -- "11-14: from"
    ∷ (11, 4)
    -- "15-17: type"; `kind` is our name for it
    ∷ (15, 3)
    -- "18-28: offset"
    ∷ (18, 11)
    ∷ []

-- a row's part of an identifier: it divided by 2 to the row's lowest bit, modulo 2 to the row's width
abbrev pub part : ℕ → ℕ × ℕ → ℕ
part id (low, width) = id / 2 ^ low % 2 ^ width

-- row k, and its part of an identifier; the first is row 0
abbrev pub row : ℕ → ℕ × ℕ
row k = get_or rows k (0, 0)

abbrev pub part_at : (id k : ℕ) → ℕ
part_at id k = part id (row k)

-- 01's parts, each by the place of its row; the table has two rows, bit 4, and bits 0-3
unfoldable pub id_spare : ℕ → ℕ
id_spare id = part_at id 0

unfoldable pub id_table : ℕ → ℕ
id_table id = part_at id 1 * 16 + part_at id 2

unfoldable pub id_to : ℕ → ℕ
id_to id = part_at id 3

unfoldable pub id_from : ℕ → ℕ
id_from id = part_at id 4

unfoldable pub id_kind : ℕ → ℕ
id_kind id = part_at id 5

unfoldable pub id_offset : ℕ → ℕ
id_offset id = part_at id 6

unfoldable pub parts_of : ℕ → Parts
parts_of id = record { offset = id_offset id; kind = id_kind id; from = id_from id; to = id_to id; table = id_table id }

-- parts, row by row: spare is 0; bit 4 of the table, its bits 0-3; to; from; type; offset
unfoldable pub by_row : Parts → List ℕ
by_row p = 0 ∷ p.table / 16 ∷ p.table % 16 ∷ p.to ∷ p.from ∷ p.kind ∷ p.offset ∷ []

-- the sum of each row's part times 2 to the row's lowest bit
unfoldable pub sum_of_rows : List (ℕ × ℕ) → List ℕ → ℕ
sum_of_rows [] vs = 0
sum_of_rows (r ∷ rs) [] = 0
sum_of_rows ((low, width) ∷ rs) (v ∷ vs) = v * 2 ^ low + sum_of_rows rs vs

-- the identifier of parts
unfoldable pub id_in : Parts → ℕ
id_in p = sum_of_rows rows (by_row p)

abbrev pub id_of : (offset kind from to table : ℕ) → ℕ
id_of offset kind from to table = id_in (record { offset = offset; kind = kind; from = from; to = to; table = table })

-- parts that no row holds. 01 gives no number for them; ours: 5 for a type over 7, then as in the bridge's opening 7 for a device or
-- a table and 8 for the offset
unfoldable pub pack_number : Parts → ℕ
pack_number p =
    5 if ltb 7 p.kind
    else 7 if ltb 15 p.from
    else 7 if ltb 15 p.to
    else 7 if ltb 31 p.table
    else 8 if ltb 2047 p.offset
    else 0

unfoldable pub pack_of : Parts → Result ℕ Refusal
pack_of p = checked (pack_number p) (id_in p)

-- parts as the rows hold them: each modulo 2 to its row's width, the table to those of its two rows together
unfoldable pub in_rows : Parts → Parts
in_rows p = record {
  offset = p.offset % 2 ^ (row 6).1;
  kind = p.kind % 2 ^ (row 5).1;
  from = p.from % 2 ^ (row 4).1;
  to = p.to % 2 ^ (row 3).1;
  table = p.table % 2 ^ ((row 1).1 + (row 2).1);
}

-- 1: identifier 2^29 or more; 2: spare bits set
unfoldable pub unpack_number : ℕ → ℕ
unpack_number id = 1 if leb (2 ^ 29) id else 2 if not (eqb (id_spare id) 0) else 0

unfoldable pub unpack_of : ℕ → Result Parts Refusal
unpack_of id = checked (unpack_number id) (parts_of id)

-- in a refusal every other number is 0
abbrev pub no_parts : Parts
no_parts = record { offset = 0; kind = 0; from = 0; to = 0; table = 0 }
