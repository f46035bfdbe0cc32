-- What the definitions make of 01's example log, "time 0, one U08 field `t` with all else 0, no info, data begin 113, record length 1, then
-- `00 00 00 0A 07 07`", of small files that miss a rule by one, of blocks where the counter starts again, and of a shown value.
use Rattle.std.specs.Prelude.{ℕ, ◌-◌, ◌≡◌, true, false, List, [], ◌∷◌, ◌++◌, pos, length, replicate, Ok, Err}
use Rattle.std.specs.Float.{binary32}
use Rattle.std.specs.Float.Ieee.{of_int}
use Rattle.mlg_rules.specs.Header.{read_header_of, head_answer}
use Rattle.mlg_rules.specs.Block.{read_block_of, block_answer}
use Rattle.mlg_rules.specs.Log.{log_from, count_blocks_of}
use Rattle.mlg_rules.specs.Entries.{a_record, a_mark, entries_bytes}
use Rattle.mlg_rules.specs.RoundTrip.{log_bytes}
use Rattle.mlg_rules.specs.Writing.{header_bytes, write_header_number, mark_bytes}
use Rattle.mlg_rules.specs.Raw.{raw_value_of, raw_answer}
use Rattle.mlg_rules.specs.Shown.{apply_of}
use Rattle.wire.specs.declared.refusal.Refusal.TheVariants as R
use Rattle.mlg_rules.specs.declared.Block.TheVariants.{Data, Mark, End}
use Rattle.mlg_rules.specs.declared.Block.TheVariants as B

-- "one .. field .. with all else 0"
abbrev pub field_with : (type : ℕ) (name : List ℕ) → List ℕ
field_with type name = type ∷ name ++ replicate (88 - length name) 0

-- the header with "time 0" and these numbers, each below 256, before the rest of a file
abbrev pub head_with : (info begin size count : ℕ) (rest : List ℕ) → List ℕ
head_with info begin size count rest =
    (0x4D ∷ 0x4C ∷ 0x56 ∷ 0x4C ∷ 0x47 ∷ 0 ∷ 0 ∷ 2 ∷ 0 ∷ 0 ∷ 0 ∷ 0 ∷ 0 ∷ 0 ∷ 0 ∷ info ∷ 0 ∷ 0 ∷ 0 ∷ begin ∷ 0 ∷ size ∷ 0 ∷ count ∷ [])
    ++ rest

-- a log of one field of one byte and these blocks: "time 0, one .. field .., no info, data begin 113, record length 1"
abbrev pub log_with : (type : ℕ) (name blocks : List ℕ) → List ℕ
log_with type name blocks = head_with 0 113 1 1 (field_with type name ++ blocks)

-- "one U08 field `t` .., then `00 00 00 0A 07 07`"
abbrev pub log : List ℕ
log = log_with 0 (116 ∷ []) (0 ∷ 0 ∷ 0 ∷ 10 ∷ 7 ∷ 7 ∷ [])

-- the same with a mark, `ok`, before the record, which then is the second block
abbrev pub marked : List ℕ
marked = log_with 0 (116 ∷ []) ((1 ∷ 0 ∷ 0 ∷ 5 ∷ 111 ∷ 107 ∷ replicate 48 0) ++ (0 ∷ 1 ∷ 0 ∷ 10 ∷ 7 ∷ 7 ∷ []))

-- one 8-bit bit field with this names index and these bits, and one name: the fields end at 113, and data begin at 115
abbrev pub bits_with : (index bits : ℕ) → List ℕ
bits_with index bits = head_with 0 115 1 1 (10 ∷ replicate 49 0 ++ (index ∷ bits ∷ replicate 37 0 ++ (97 ∷ 0 ∷ [])))

-- a data block of an empty record, with this counter
abbrev pub data_with : ℕ → List ℕ
data_with c = 0 ∷ c ∷ 0 ∷ 0 ∷ 0 ∷ []

-- a mark, `ok`
abbrev pub mark_with : ℕ → List ℕ
mark_with c = 1 ∷ c ∷ 0 ∷ 0 ∷ 111 ∷ 107 ∷ replicate 48 0

-- data, mark, data, mark, with these counters
abbrev pub blocks_with : (a b c d : ℕ) → List ℕ
blocks_with a b c d = data_with a ++ (mark_with b ++ (data_with c ++ mark_with d))

pub record HeaderExamples : Type 0 where
  pub header : read_header_of log ≡ Ok (record { version = 2; time = 0; info = 0; begin = 113; size = 1; count = 1 })
  -- "20 (under 24 bytes)"; in a refusal every other number is 0
  pub empty : head_answer (read_header_of []) ≡ (20, record { version = 0; time = 0; info = 0; begin = 0; size = 0; count = 0 })
  -- "21, 22": 24 bytes of which neither name nor version is right
  pub zeros : read_header_of (replicate 24 0) ≡ Err R.WrongName
  -- "data begin before the fields' end", by a byte
  pub begin_early : read_header_of (head_with 0 112 1 1 (field_with 0 [])) ≡ Err R.Disagree
  -- "info start .. data begin, which is excluded"
  pub info_at_begin : read_header_of (head_with 24 24 0 0 []) ≡ Err R.Disagree
  pub info_before : read_header_of (head_with 24 25 0 0 (0 ∷ [])) ≡ Ok (record { version = 2; time = 0; info = 24; begin = 25; size = 0; count = 0 })
  -- "28 if info has no zero before data begin"
  pub info_unended : read_header_of (head_with 24 25 0 0 (105 ∷ [])) ≡ Err R.WrongText
  -- "fields' end to data begin (excluded)": the first index, and the one after the last
  pub index_first : read_header_of (bits_with 113 1) ≡ Ok (record { version = 2; time = 0; info = 0; begin = 115; size = 1; count = 1 })
  pub index_at_begin : read_header_of (bits_with 115 1) ≡ Err R.Disagree
  -- "28 unless that many zero-ended names lie before data begin"
  pub one_name_for_two : read_header_of (bits_with 113 2) ≡ Err R.WrongText
  -- "Then each field in turn: 24 for type .. Then 23 if record length isn't the sum of field sizes": a bad type first; 2 where it is 1
  pub bad_type : read_header_of (head_with 0 113 1 1 (field_with 9 [])) ≡ Err R.FieldType
  pub size_off : read_header_of (head_with 0 113 2 1 (field_with 0 [])) ≡ Err R.Disagree

pub record BlockExamples : Type 0 where
  pub first : read_block_of 1 0 log 113 ≡ Data 0 10 117 true
  pub last : read_block_of 1 1 log 119 ≡ End
  pub counted : count_blocks_of log ≡ record { blocks = 1; ending = 0; place = 119 }
  pub mark : read_block_of 1 0 marked 113 ≡ Mark 0 5 117 2 true
  pub after_mark : read_block_of 1 1 marked 167 ≡ Data 1 10 171 true
  -- 02, C-12: "In 01 the MLG counter is now modulo 256". 01: "A wrong counter is reported with the block, not refused."
  pub after255 : read_block_of 1 255 log 113 ≡ Data 0 10 117 false
  pub after256 : read_block_of 1 256 log 113 ≡ Data 0 10 117 true
  pub rolling : log_from 5 0 254 (blocks_with 254 255 0 1) 0 ≡ record {
    blocks = (0, Data 254 0 4 true) ∷ (5, Mark 255 0 9 2 true) ∷ (59, Data 0 0 63 true) ∷ (64, Mark 1 0 68 2 true) ∷ [];
    ending = End;
    place = 118;
  }
  -- the same blocks with counters modulo 255
  pub modulo255 : log_from 5 0 254 (blocks_with 254 0 1 2) 0 ≡ record {
    blocks = (0, Data 254 0 4 true) ∷ (5, Mark 0 0 9 2 false) ∷ (59, Data 1 0 63 false) ∷ (64, Mark 2 0 68 2 false) ∷ [];
    ending = End;
    place = 118;
  }
  pub both_counted : count_blocks_of marked ≡ record { blocks = 2; ending = 0; place = 173 }
  -- "23 (place past the file)", by a byte
  pub past : read_block_of 1 1 log 120 ≡ B.Refused 23 120
  -- "25, 20": a byte that is no type, and nothing after it
  pub unknown_type : read_block_of 1 0 (2 ∷ []) 0 ≡ B.Refused 25 0
  -- "28": a mark of 50 bytes without a zero
  pub unended_mark : read_block_of 1 0 (1 ∷ 0 ∷ 0 ∷ 0 ∷ replicate 50 109) 0 ≡ B.Refused 28 0
  -- the end is told from data, and a refusal "names the block's place"; every other number in them is 0
  pub at_end : block_answer 1 (read_block_of 1 1 log 119)
      ≡ record { kind = 2; number = 0; counter = 0; time = 0; start = 0; len = 0; as_expected = false; place = 0 }
  pub wrong_sum : block_answer 1 (read_block_of 1 0 (log_with 0 (116 ∷ []) (0 ∷ 0 ∷ 0 ∷ 10 ∷ 7 ∷ 8 ∷ [])) 113)
      ≡ record { kind = 3; number = 26; counter = 0; time = 0; start = 0; len = 0; as_expected = false; place = 113 }

pub record WritingExamples : Type 0 where
  -- the writers write the logs
  pub written : log_bytes 0 (field_with 0 (116 ∷ [])) [] [] (a_record 10 (7 ∷ []) ∷ []) ≡ log
  pub marked_written : log_bytes 0 (field_with 0 (116 ∷ [])) [] [] (a_mark 5 (111 ∷ 107 ∷ []) ∷ a_record 10 (7 ∷ []) ∷ []) ≡ marked
  -- the counters of blocks after 254 others
  pub rolling_written : entries_bytes 254 (a_record 0 [] ∷ a_mark 0 (111 ∷ 107 ∷ []) ∷ a_record 0 [] ∷ a_mark 0 (111 ∷ 107 ∷ []) ∷ [])
      ≡ blocks_with 254 255 0 1
  -- "adds info's zero"
  pub info_ended : header_bytes 2 0 [] [] (105 ∷ []) ≡ head_with 24 26 0 0 (105 ∷ 0 ∷ [])
  -- "28 (zero in info)"
  pub zero_in_info : write_header_number 2 0 [] [] (105 ∷ 0 ∷ 105 ∷ []) 100 ≡ 28
  -- "then 27": not where it just fits
  pub just_fits : write_header_number 2 0 [] [] [] 24 ≡ 0
  -- "Marks are zero-padded."
  pub padded : mark_bytes 3 258 (111 ∷ 107 ∷ []) ≡ 1 ∷ 3 ∷ 1 ∷ 2 ∷ 111 ∷ 107 ∷ replicate 48 0

pub record ValueExamples : Type 0 where
  -- a refusal's value is 0: "24" for a type that is none
  pub no_type : raw_answer (raw_value_of 2 (field_with 9 []) []) ≡ (24, pos 0)
  -- "raw plus transform, rounded to f32, times scale, rounded": 4 with transform 3 and scale 2 shows 14; scaling before shifting would show 11
  pub shown : apply_of (record { scale = of_int binary32 (pos 2); transform = of_int binary32 (pos 3) }) (of_int binary32 (pos 4))
      ≡ Ok (of_int binary32 (pos 14))

pub record Examples : Type 0 where
  pub headers : HeaderExamples
  pub blocks : BlockExamples
  pub writing : WritingExamples
  pub values : ValueExamples
