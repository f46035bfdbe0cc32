-- 01, "FRD": "Block 1: type, counter, L bytes. Block 2: type, counter, time (32)" .. "The counter is the number of earlier blocks, modulo 256, a
-- wrong one reported." Below, l is the output length L, n the number of earlier blocks, c the expected counter, f a file, at a place in it, and
-- t the rest of the file from that place on.
use Rattle.std.specs.Prelude.{ℕ, zero, suc, ◌+◌, Bool, false, cond, List, eqb, ltb, length, get_or, drop, Option, Some, None}
use Rattle.wire.specs.Order.{◌if◌else◌}
use Rattle.wire.specs.BigEndian.{be_at}
use Rattle.wire.specs.Log.{judged, data_kind, time_kind, end_kind, refused_kind}
-- "The counter is the number of earlier blocks, modulo 256", as in MLG
pub use Rattle.wire.specs.Log.{counter_after}
use Rattle.frd_rules.specs.declared.Block.{Block}
use Rattle.frd_rules.specs.declared.Block.TheVariants.{Data, Time, End, Refused}

-- the length of a block by its type, 0 for an unknown type
unfoldable pub block_len : (l type : ℕ) → ℕ
block_len l type = (l + 2) if eqb type 1 else 6 if eqb type 2 else 0

-- the same as an option
abbrev pub some_len : ℕ → Option ℕ
some_len zero = None
some_len (suc n) = Some (suc n)

-- type, counter and time of the block that t begins with
abbrev pub type_in : List ℕ → ℕ
type_in t = get_or t 0 0

abbrev pub counter_in : List ℕ → ℕ
counter_in t = get_or t 1 0

abbrev pub time_in : List ℕ → ℕ
time_in t = be_at 4 t 2

-- where the L bytes of the data block at a place begin
abbrev pub record_place : ℕ → ℕ
record_place at = at + 2

-- "25, 20": type unknown, block cut short; nothing left is the end
unfoldable pub rest_number : ℕ → List ℕ → ℕ
rest_number l t =
    0 if eqb (length t) 0
    else 25 if eqb (block_len l (type_in t)) 0
    else 20 if ltb (length t) (block_len l (type_in t))
    else 0

-- what t begins with where no number refuses it, and whether its counter is as expected
unfoldable pub found_of : (c at : ℕ) → List ℕ → Block
found_of c at t =
    cond (eqb (length t) 0) End
    (cond (eqb (type_in t) 1)
    (Data (counter_in t) (record_place at) (eqb (counter_in t) c))
    (Time (counter_in t) (time_in t) (eqb (counter_in t) c)))

-- what t begins with
unfoldable pub block_of : (l c at : ℕ) → List ℕ → Block
block_of l c at t = judged Refused (rest_number l t) at (found_of c at t)

-- "Order: .. 23 (place past the file), 25, 20"; a place equal to the file's length is the end
unfoldable pub read_block_number : ℕ → List ℕ → ℕ → ℕ
read_block_number l f at =
    23 if ltb (length f) at
    else rest_number l (drop at f)

-- what stands at a place of a file, after n blocks
unfoldable pub read_block_of : (l n : ℕ) → List ℕ → ℕ → Block
read_block_of l n f at = judged Refused (read_block_number l f at) at (found_of (counter_after n) at (drop at f))

-- the kind, and the paper's number and values of each case
pub record BlockAnswer : Type 0 where
  pub kind : ℕ
  pub number : ℕ
  pub counter : ℕ
  pub time : ℕ
  pub start : ℕ
  pub as_expected : Bool
  pub place : ℕ

-- no block, beside its kind: the end, whose number and place are 0, or a refusal, in which "every other number .. is 0, save that a block
-- reader's refusal names the block's place"
abbrev pub no_block : (kind number place : ℕ) → BlockAnswer
no_block kind n p = record { kind = kind; number = n; counter = 0; time = 0; start = 0; as_expected = false; place = p }

unfoldable pub block_answer : Block → BlockAnswer
block_answer (Data c s e) = record { kind = data_kind; number = 0; counter = c; time = 0; start = s; as_expected = e; place = 0 }
block_answer (Time c m e) = record { kind = time_kind; number = 0; counter = c; time = m; start = 0; as_expected = e; place = 0 }
block_answer End = no_block end_kind 0 0
block_answer (Refused n p) = no_block refused_kind n p

-- the same of a place of a file, by its bytes
abbrev pub data_values : (c at : ℕ) → List ℕ → BlockAnswer
data_values c at t =
    record { kind = data_kind; number = 0; counter = counter_in t; time = 0; start = record_place at; as_expected = eqb (counter_in t) c; place = 0 }

abbrev pub time_values : ℕ → List ℕ → BlockAnswer
time_values c t =
    record { kind = time_kind; number = 0; counter = counter_in t; time = time_in t; start = 0; as_expected = eqb (counter_in t) c; place = 0 }

unfoldable pub found_values : (c at : ℕ) → List ℕ → BlockAnswer
found_values c at t =
    cond (eqb (length t) 0) (no_block end_kind 0 0)
    (cond (eqb (type_in t) 1) (data_values c at t) (time_values c t))

unfoldable pub block_result : (l n : ℕ) → List ℕ → ℕ → BlockAnswer
block_result l n f at = judged (no_block refused_kind) (read_block_number l f at) at (found_values (counter_after n) at (drop at f))

-- how many bytes a block takes
unfoldable pub length_of : ℕ → Block → ℕ
length_of l (Data c s e) = block_len l 1
length_of l (Time c m e) = block_len l 2
length_of l End = 0
length_of l (Refused n p) = 0
