-- How long lines get.
use Prim.Native.Nat.{ℕ, zero, suc, ◌+◌, ◌*◌, ◌≤◌, ◌<◌}
use mathlib.Core.Path.{refl}
use mathlib.Core.Bool.{Bool, true, false}
use mathlib.Core.List.{List}
use native.Mathlib.Omega.{arith}
use lib.ListN.{length, take, drop, length-append, length-take, length-drop}
use Rattle.wire.specs.BigEndian.{be_at}
use Rattle.wire.specs.Text.{text_len}
use Rattle.wire.proofs.Numbers.{Bytes, bytes_take, bytes_drop, be_below, below_part}
use Rattle.wire.proofs.Parts.{take_length_le}
use Rattle.mlg_rules.specs.Layout.{layout_of, field_len}
use Rattle.mlg_rules.specs.Field.{type_of, field_size}
use Rattle.mlg_rules.specs.Block.{block_len, counter_in, time_in, text_in, parts_of}
use Rattle.mlg_rules.specs.Log.{length_of}
use Rattle.mlg_rules.specs.declared.Header.{Header}
use Rattle.mlg_rules.specs.declared.Block.TheVariants.{Data, Mark, End, Refused}
use Rattle.listing_rules.specs.Lines.{header_line, name_of, field_line, field_lines, value_text, values_text, as_expected_text, block_line}
use Rattle.listing_rules.specs.BlockInFile.{ValuesNotRefused, BlockInFile}
use Rattle.listing_rules.proofs.FieldNames.{name_length}
use Rattle.listing_rules.proofs.PrintedText.{printed_length}
use Rattle.listing_rules.proofs.TextLengths.{decimal_short, value_short}

-- two bytes hold numbers below 65,536
pub two_bytes : (f : List ℕ) (at : ℕ) → Bytes f → be_at 2 f at < 65536
two_bytes f at g = below_part 2 (drop at f) (be_below (take 2 (drop at f)) (bytes_take 2 (drop at f) (bytes_drop at f g))) refl

pub header_line_length : (h : Header) → h.count < 65536 → h.size < 65536 → length (header_line h) ≤ 26
unfolding header_line
header_line_length h c s = simp length-append (omega (arith, decimal_short h.count 4 (omega arith), decimal_short h.size 4 (omega arith)))

field_line_length : (i : ℕ) (d : List ℕ) → i < 100000 → type_of d < 256 → length (field_line i d) ≤ 51
unfolding field_line
field_line_length i d h k =
    simp length-append
    (omega (arith, decimal_short i 4 (omega arith), decimal_short (type_of d) 2 (omega arith), printed_length (name_of d), name_length d))

pub field_lines_length : (v i n : ℕ) (t : List ℕ) → i + n ≤ 100000 → Bytes t → length (field_lines v i n t) ≤ 51 * n
field_lines_length v i zero t h g = omega arith
field_lines_length v i (suc n) t h g =
    let d = take (field_len v) t in
    let line = field_line_length i d (omega arith) (bytes_take (field_len v) t g 0) in
    let rest = field_lines_length v (i + 1) n (drop (field_len v) t) (omega arith) (bytes_drop (field_len v) t g) in
    omega (arith, line, rest, length-append (field_line i d) (field_lines v (i + 1) n (drop (field_len v) t)))

-- five bytes for each of a record
pub values_length : (v n : ℕ) (t b : List ℕ) → ValuesNotRefused v n t b → Bytes b → length (values_text v n t b) ≤ 5 * length b
values_length v zero t b k g = omega arith
values_length v (suc n) t b k g =
    let d = take (field_len v) t in
    let fields = drop (field_len v) t in
    let s = field_size d in
    let one = value_short 2 d (take s b) k.0 (bytes_take s b g) in
    let rest = values_length v n fields (drop s b) k.1 (bytes_drop s b g) in
    omega (arith, one, rest, length-append (value_text d (take s b)) (values_text v n fields (drop s b)), length-take s b, length-drop s b)

as_expected_length : (r : Bool) → length (as_expected_text r) ≤ 2
unfolding as_expected_text
as_expected_length true = omega arith
as_expected_length false = omega arith

-- the line of a block after fewer than 100,000: five bytes for each of the block's own
module _ (h : Header) (f : List ℕ) (n : ℕ) (k : n < 100000) where
  data_line_length : (c m s : ℕ) (r : Bool) → c < 256 → m < 65536
      → length (values_text h.version h.count (drop 24 f) (take h.size (drop s f))) ≤ 5 * h.size
      → length (block_line h f n (Data c m s r)) ≤ 5 * (h.size + 5)
  unfolding block_line layout_of
  data_line_length c m s r i j v =
      simp length-append
      (omega (arith, decimal_short n 4 k, decimal_short c 2 (omega arith), decimal_short m 4 (omega arith), v, as_expected_length r))

  mark_line_length : (c m s l : ℕ) (r : Bool) → c < 256 → m < 65536 → l ≤ 50 → length (block_line h f n (Mark c m s l r)) ≤ 5 * 54
  unfolding block_line
  mark_line_length c m s l r i j v =
      simp length-append
      (omega (
        arith,
        decimal_short n 4 k,
        decimal_short c 2 (omega arith),
        decimal_short m 4 (omega arith),
        printed_length (take l (drop s f)),
        take_length_le l (drop s f),
        as_expected_length r,
      ))

  pub end_line_length : length (block_line h f n End) ≤ 53
  unfolding block_line
  end_line_length = simp length-append (omega (arith, decimal_short n 4 k))

  pub refusal_line_length : (x p : ℕ) → x ≤ 28 → p < 100000 → length (block_line h f n (Refused x p)) ≤ 53
  unfolding block_line
  refusal_line_length x p i j = simp length-append (omega (arith, decimal_short x 1 (omega arith), decimal_short p 4 j))

  pub parts_line_length : (kind c at : ℕ) → Bytes f → BlockInFile h f (parts_of kind c at (drop at f))
      → length (block_line h f n (parts_of kind c at (drop at f))) ≤ 5 * length_of h.size (parts_of kind c at (drop at f))
  unfolding parts_of length_of block_len layout_of
  parts_line_length zero c at g b =
      let t = drop at f in
      let r = take h.size (drop (at + 4) f) in
      let values = values_length h.version h.count (drop 24 f) r b.2 (bytes_take h.size _ (bytes_drop (at + 4) f g)) in
      data_line_length (counter_in t) (time_in t) (at + 4) _ (bytes_drop at f g 1) (two_bytes t 2 (bytes_drop at f g))
      (omega (arith, values, take_length_le h.size (drop (at + 4) f)))
  parts_line_length (suc kind) c at g b =
      let t = drop at f in
      mark_line_length (counter_in t) (time_in t) (at + 4) (text_len (text_in t)) _ (bytes_drop at f g 1) (two_bytes t 2 (bytes_drop at f g)) b.1
