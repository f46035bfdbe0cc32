-- The lines of a listing. Every line ends with a newline; one space stands between items, also before an empty name or text.
use Rattle.std.specs.Prelude.{ℕ, zero, suc, ◌+◌, Bool, true, false, List, [], ◌∷◌, ◌++◌, take, drop}
use Rattle.mlg_rules.specs.Layout.{field_len}
use Rattle.mlg_rules.specs.Field.{type_of, name_at, name_len, field_size}
use Rattle.mlg_rules.specs.Raw.{raw_of}
use Rattle.mlg_rules.specs.Header.{fields_from}
use Rattle.mlg_rules.specs.declared.Header.{Header}
use Rattle.mlg_rules.specs.declared.Block.{Block}
use Rattle.mlg_rules.specs.declared.Block.TheVariants.{Data, Mark, End, Refused}
use Rattle.listing_rules.specs.Text.{ascii, decimal, integer, printed, to_zero}

abbrev pub space : List ℕ
space = ascii " "

abbrev pub newline : List ℕ
newline = ascii "\n"

-- what the program prints for an input over its length
abbrev pub too_long : List ℕ
too_long = ascii "too long\n"

-- `fields 1 record 1`
unfoldable pub header_line : Header → List ℕ
header_line h = ascii "fields " ++ decimal h.count ++ ascii " record " ++ decimal h.size ++ newline

-- `field 0 0 t`: "Field lines: index, type, name." A field's bytes are d.
unfoldable pub name_of : List ℕ → List ℕ
name_of d = to_zero (take name_len (drop name_at d))

unfoldable pub field_line : ℕ → List ℕ → List ℕ
field_line i d = ascii "field " ++ decimal i ++ space ++ decimal (type_of d) ++ space ++ printed (name_of d) ++ newline

-- the lines of n fields from field i on, of a file of version v; their bytes begin t
abbrev pub field_lines : ℕ → ℕ → ℕ → List ℕ → List ℕ
field_lines v i zero t = []
field_lines v i (suc n) t = field_line i (take (field_len v) t) ++ field_lines v (i + 1) n (drop (field_len v) t)

-- the raw value of the field with the bytes d, of which b are the raw bytes
unfoldable pub value_text : List ℕ → List ℕ → List ℕ
value_text d b = space ++ integer (raw_of (type_of d) b)

-- the raw values of n fields of a file of version v; their bytes begin t and their raw bytes begin b
abbrev pub values_text : ℕ → ℕ → List ℕ → List ℕ → List ℕ
values_text v zero t b = []
values_text v (suc n) t b =
    value_text (take (field_len v) t) (take (field_size (take (field_len v) t)) b)
    ++ values_text v n (drop (field_len v) t) (drop (field_size (take (field_len v) t)) b)

-- "a wrong counter adds ` !`"
unfoldable pub as_expected_text : Bool → List ℕ
as_expected_text true = []
as_expected_text false = ascii " !"

-- `0 data 0 10 7`: "Block lines: number, kind, counter, time, raw values or mark text". `end 1`; "A refusal prints `refused 26 at 113` in
-- its place". The block b of the file f with the header h comes after n earlier ones.
unfoldable pub block_line : Header → List ℕ → ℕ → Block → List ℕ
block_line h f n (Data c m s r) =
    decimal n ++ ascii " data " ++ decimal c ++ space ++ decimal m
    ++ values_text h.version h.count (fields_from f h) (take h.size (drop s f)) ++ as_expected_text r ++ newline
block_line h f n (Mark c m s k r) =
    decimal n ++ ascii " mark " ++ decimal c ++ space ++ decimal m
    ++ (space ++ printed (take k (drop s f))) ++ as_expected_text r ++ newline
block_line h f n End = ascii "end " ++ decimal n ++ newline
block_line h f n (Refused x place) = ascii "refused " ++ decimal x ++ ascii " at " ++ decimal place ++ newline

-- the lines of blocks after n earlier ones
abbrev pub block_lines : Header → List ℕ → ℕ → List (ℕ × Block) → List ℕ
block_lines h f n [] = []
block_lines h f n (b ∷ bs) = block_line h f n b.1 ++ block_lines h f (n + 1) bs
