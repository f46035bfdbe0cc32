-- The blocks of a log. 01: "Data block: type 0, counter, time (16), record, then the sum of the record's bytes, modulo 256. Mark: type 1,
-- counter, time, 50 bytes of text; 54 in all."
-- Here t is the rest of the file from the block on, and l the record length.
use Rattle.std.specs.Prelude.{ℕ, zero, suc, ◌+◌, Bool, false, not, List, [], ◌∷◌, eqb, leb, ltb, length, get_or, take, drop, Option, Some, None}
use Rattle.wire.specs.Order.{◌if◌else◌}
use Rattle.wire.specs.BigEndian.{be_at}
use Rattle.wire.specs.Sum.{sum_of}
use Rattle.wire.specs.Text.{text_len}
use Rattle.wire.specs.Log.{judged, data_kind, mark_kind, end_kind, refused_kind}
-- "The counter is the number of earlier blocks, of both kinds", modulo 256 (02, C-12)
pub use Rattle.wire.specs.Log.{counter_after}
use Rattle.mlg_rules.specs.declared.Block.{Block}
use Rattle.mlg_rules.specs.declared.Block.TheVariants.{Data, Mark, End, Refused}

-- bytes of a block by its type; 0 for a type that is unknown
unfoldable pub block_len : ℕ → ℕ → ℕ
block_len l zero = l + 5
block_len l (suc zero) = 54
block_len l (suc (suc k)) = 0

-- the same as an option
abbrev pub some_len : ℕ → Option ℕ
some_len zero = None
some_len (suc n) = Some (suc n)

-- a block's parts
abbrev pub type_in : List ℕ → ℕ
type_in t = get_or t 0 0

abbrev pub counter_in : List ℕ → ℕ
counter_in t = get_or t 1 0

abbrev pub time_in : List ℕ → ℕ
time_in t = be_at 2 t 2

abbrev pub record_in : ℕ → List ℕ → List ℕ
record_in l t = take l (drop 4 t)

abbrev pub sum_in : ℕ → List ℕ → ℕ
sum_in l t = get_or t (l + 4) 0

abbrev pub text_in : List ℕ → List ℕ
text_in t = take 50 (drop 4 t)

-- "28 or 26": a mark's text without its zero, a record's wrong sum
unfoldable pub last_of : ℕ → ℕ → List ℕ → ℕ
last_of zero l t = 26 if not (eqb (sum_of (record_in l t)) (sum_in l t)) else 0
last_of (suc k) l t = 28 if leb 50 (text_len (text_in t)) else 0

-- "Order: .. 25, 20, 28 or 26."
unfoldable pub rest_number : ℕ → List ℕ → ℕ
rest_number l t =
    25 if eqb (block_len l (type_in t)) 0 else
    20 if ltb (length t) (block_len l (type_in t)) else
    last_of (type_in t) l t

-- a block that stands, at the place at: its counter and time, where its record or text starts, how long the text is, and whether the counter
-- is the expected one, c. "A wrong counter is reported with the block, not refused."
unfoldable pub parts_of : ℕ → ℕ → ℕ → List ℕ → Block
parts_of zero c at t = Data (counter_in t) (time_in t) (at + 4) (eqb (counter_in t) c)
parts_of (suc k) c at t = Mark (counter_in t) (time_in t) (at + 4) (text_len (text_in t)) (eqb (counter_in t) c)

-- "A block is either data, a mark, the end, or a refusal."
unfoldable pub block_of : ℕ → ℕ → ℕ → List ℕ → Block
block_of l c at [] = End
block_of l c at (b ∷ t) = judged Refused (rest_number l (b ∷ t)) at (parts_of b c at (b ∷ t))

-- "23 (place past the file)", for a place in a file of n bytes
unfoldable pub place_number : ℕ → ℕ → ℕ
place_number n at = 23 if ltb n at else 0

-- the block at a place of a file, after n earlier blocks
unfoldable pub read_block_of : ℕ → ℕ → List ℕ → ℕ → Block
read_block_of l n f at = judged Refused (place_number (length f) at) at (block_of l (counter_after n) at (drop at f))

-- the kind, and the paper's number and values of each case, where records have l bytes
pub record BlockAnswer : Type 0 where
  pub kind : ℕ
  pub number : ℕ
  pub counter : ℕ
  pub time : ℕ
  pub start : ℕ
  pub len : ℕ
  pub as_expected : Bool
  pub place : ℕ

-- no block, beside its kind: the end, whose number and place are 0, or a refusal, in which "every other number .. is 0, save that a block
-- reader's refusal names the block's place"
abbrev pub no_block : (kind number place : ℕ) → BlockAnswer
no_block kind n p = record { kind = kind; number = n; counter = 0; time = 0; start = 0; len = 0; as_expected = false; place = p }

unfoldable pub block_answer : ℕ → Block → BlockAnswer
block_answer l (Data c m s r) = record { kind = data_kind; number = 0; counter = c; time = m; start = s; len = l; as_expected = r; place = 0 }
block_answer l (Mark c m s k r) = record { kind = mark_kind; number = 0; counter = c; time = m; start = s; len = k; as_expected = r; place = 0 }
block_answer l End = no_block end_kind 0 0
block_answer l (Refused n p) = no_block refused_kind n p

-- the same of a place of a file, by its bytes
abbrev pub found_values : ℕ → ℕ → ℕ → ℕ → List ℕ → BlockAnswer
found_values kind len c at t =
    record { kind = kind; number = 0; counter = counter_in t; time = time_in t; start = at + 4; len = len; as_expected = eqb (counter_in t) c; place = 0 }

unfoldable pub part_values : ℕ → ℕ → ℕ → ℕ → List ℕ → BlockAnswer
part_values zero l c at t = found_values data_kind l c at t
part_values (suc k) l c at t = found_values mark_kind (text_len (text_in t)) c at t

unfoldable pub rest_result : ℕ → ℕ → ℕ → List ℕ → BlockAnswer
rest_result l c at [] = no_block end_kind 0 0
rest_result l c at (b ∷ t) = judged (no_block refused_kind) (rest_number l (b ∷ t)) at (part_values b l c at (b ∷ t))

unfoldable pub block_result : ℕ → ℕ → List ℕ → ℕ → BlockAnswer
block_result l n f at = judged (no_block refused_kind) (place_number (length f) at) at (rest_result l (counter_after n) at (drop at f))
