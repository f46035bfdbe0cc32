-- What the definitions make of a small log: what its writers write, what its readers hand back, and what they refuse.
use Rattle.std.specs.Prelude.{ℕ, ◌≡◌, true, false, List, [], ◌∷◌, ◌++◌, replicate, take, Ok, Err}
use Rattle.wire.specs.declared.refusal.Refusal.TheVariants as R
use Rattle.frd_rules.specs.Header.{read_header_of, head_answer, read_signature_of}
use Rattle.frd_rules.specs.Block.{read_block_of, block_answer}
use Rattle.frd_rules.specs.Log.{Placed, log_of, count_blocks_of}
use Rattle.frd_rules.specs.Writing.{write_header_number, write_data_number, write_time_number}
use Rattle.frd_rules.specs.RoundTrip.{a_record, a_time, log_bytes}
use Rattle.frd_rules.specs.declared.Block.{Block}
use Rattle.frd_rules.specs.declared.Block.TheVariants.{Data, Time, End, Refused}

-- "signature (63 bytes, free)"
abbrev pub signature : List ℕ
signature = 0xA0 ∷ replicate 61 0xA1 ++ 0xA2 ∷ []

-- a header of output length 2, by the last byte of its name, version and data begin: `46 52 44 00 00 00`, 1 and 81 are lawful
abbrev pub header_with : (name version begin : ℕ) → List ℕ
header_with name version begin =
    0x46 ∷ 0x52 ∷ 0x44 ∷ 0 ∷ 0 ∷ name ∷ 0 ∷ version ∷ 0x01 ∷ 0x02 ∷ 0x03 ∷ 0x04 ∷ signature ++ 0 ∷ 0 ∷ 0 ∷ begin ∷ 0 ∷ 2 ∷ []

-- "Block 1: type, counter, L bytes. Block 2: type, counter, time (32)": a record, a time, a record
abbrev pub log : List ℕ
log =
    header_with 0 1 81
    ++ 1 ∷ 0 ∷ 0x0B ∷ 0xB8 ∷ 2 ∷ 1 ∷ 0x05 ∷ 0x06 ∷ 0x07 ∷ 0x08 ∷ 1 ∷ 2 ∷ 0x0C ∷ 0x1C ∷ []

-- a block and its place
abbrev pub at : ℕ → Block → Placed
at place block = record { place = place; block = block }

pub record Examples : Type 0 where
  pub written : log_bytes 0x01020304 signature 2 (a_record (0x0B ∷ 0xB8 ∷ []) ∷ a_time 0x05060708 ∷ a_record (0x0C ∷ 0x1C ∷ []) ∷ []) ≡ log
  pub header : read_header_of log ≡ Ok (record { version = 1; time = 0x01020304; begin = 81; size = 2 })
  pub signed : read_signature_of log ≡ record { number = 0; start = 12; len = 63 }
  pub blocks : log_of 2 log 81 ≡ record {
    blocks = at 81 (Data 0 83 true) ∷ at 85 (Time 1 0x05060708 true) ∷ at 91 (Data 2 93 true) ∷ [];
    ending = 0;
    place = 95;
  }
  -- "The counter is the number of earlier blocks, modulo 256, a wrong one reported"
  pub after255 : read_block_of 2 255 log 81 ≡ Data 0 83 false
  pub after256 : read_block_of 2 256 log 81 ≡ Data 0 83 true
  -- "Order: 20, 21, 22, 23"
  pub short : read_header_of (take 80 (header_with 1 2 80)) ≡ Err R.CutShort
  pub name : read_header_of (header_with 1 2 80) ≡ Err R.WrongName
  pub version : read_header_of (header_with 0 2 80) ≡ Err R.Version
  pub begin : read_header_of (header_with 0 1 80) ≡ Err R.Disagree
  -- "blocks 23 (place past the file), 25, 20": at the end, past it, one byte of an unknown type, a block cut by one byte
  pub end : read_block_of 2 3 log 95 ≡ End
  pub past : read_block_of 2 3 log 96 ≡ Refused 23 96
  pub unknown : read_block_of 2 3 log 94 ≡ Refused 25 94
  pub cut : read_block_of 3 2 log 91 ≡ Refused 20 91
  pub counted : count_blocks_of (log ++ 3 ∷ []) ≡ record { blocks = 3; ending = 25; place = 95 }
  -- "23 for a wrong record length or a signature not of 63 bytes, then 27"
  pub unsigned : write_header_number 0 (take 62 signature) 2 80 ≡ 23
  pub header_room : (write_header_number 0 signature 2 80 ≡ 27) × (write_header_number 0 signature 2 81 ≡ 0)
  pub wrong_length : write_data_number 2 0 (0x0B ∷ []) 2 ≡ 23
  pub data_room : (write_data_number 2 0 (0x0B ∷ 0xB8 ∷ []) 3 ≡ 27) × (write_data_number 2 0 (0x0B ∷ 0xB8 ∷ []) 4 ≡ 0)
  pub time_room : (write_time_number 0 1 5 ≡ 27) × (write_time_number 0 1 6 ≡ 0)
  -- "every other number in it is 0, save that a block reader's refusal names the block's place"
  pub head_answered : head_answer (Err R.WrongName) ≡ (21, record { version = 0; time = 0; begin = 0; size = 0 })
  pub data_answered : block_answer (Data 2 93 true)
      ≡ record { kind = 0; number = 0; counter = 2; time = 0; start = 93; as_expected = true; place = 0 }
  pub refusal_answered : block_answer (Refused 20 91)
      ≡ record { kind = 3; number = 20; counter = 0; time = 0; start = 0; as_expected = false; place = 91 }
