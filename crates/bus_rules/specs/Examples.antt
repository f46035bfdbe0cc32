-- What the definitions make of identifiers, of 002's worked examples, and of other frames to a small device. All that is asked and answered is written out.
use Rattle.wire.specs.declared.refusal.Refusal.TheVariants as R
use Rattle.std.specs.Prelude.{ℕ, ◌-◌, ◌≡◌, List, [], ◌∷◌, ◌++◌, map, length, replicate, Ok, Err}
use Rattle.bus_rules.specs.Device.{Directory, HolderState, Device, device, first_state_of}
use Rattle.bus_rules.specs.Frames.{Frame}
use Rattle.bus_rules.specs.Ident.{Parts, rows, part, part_at, sum_of_rows, pack_of, unpack_of}
use Rattle.bus_rules.specs.Request.{read_request_of, request_bytes_of}
use Rattle.bus_rules.specs.Holder.{Served, serve_of, device_after}

-- of a device: table 4 has 2 bytes and no right, table 7 has 8 bytes to read, table 15 so many to read and write, table 20 has 2 to read and write
abbrev pub tables : (own size : ℕ) → Directory
tables own size = record {
  sizes = replicate 4 0 ++ 2 ∷ 0 ∷ 0 ∷ 8 ∷ replicate 7 0 ++ size ∷ replicate 4 0 ++ 2 ∷ replicate 11 0;
  rights = replicate 7 0 ++ 1 ∷ replicate 7 0 ++ 2 ∷ replicate 4 0 ++ 2 ∷ replicate 11 0;
  table_blocking = 0x0102;
  write_blocking = 0x0304;
  own = own;
}

-- 002's device 0: "RPM .. in table 7, offset 6" is 14 FE, and table 15 is the serial signature, whose last four bytes are given
abbrev pub signature_with : (last : List ℕ) → List ℕ
signature_with last =
    0x4D ∷ 0x53 ∷ 0x33 ∷ 0x20 ∷ 0x46 ∷ 0x6F ∷ 0x72 ∷ 0x6D ∷ 0x61 ∷ 0x74 ∷ 0x20 ∷ 0x30 ∷ 0x34 ∷ 0x33 ∷ 0x35 ∷ 0x2E ∷ last

-- 02, C-13: a state: the family, whether a table is current, and that table
abbrev pub state : (family has current : ℕ) → HolderState
state family has current = record { family = family; has_current = has; current = current }

abbrev pub holds : HolderState → (last flash : List ℕ) → Device
holds s last flash =
    device (tables 0 20)
    s
    (0xA0 ∷ 0xA1
    ∷ 0 ∷ 0 ∷ 0 ∷ 0 ∷ 0 ∷ 0 ∷ 0x14 ∷ 0xFE
    ∷ signature_with last ++ 0xC2 ∷ 0xC3 ∷ [])
    flash

-- its signature's last four bytes, and its flash, in which each byte is FF
abbrev pub last_four : List ℕ
last_four = 0x31 ∷ 0x34 ∷ 0x20 ∷ 0x00 ∷ []

abbrev pub erased : List ℕ
erased = replicate 32 0xFF

-- it is of the newer family, and table 15 is current
abbrev pub holder : Device
holder = holds (state 3 1 15) last_four erased

-- 02, C-11: its flash after table 15 is burnt
abbrev pub signature_burnt : List ℕ
signature_burnt = replicate 10 0xFF ++ signature_with last_four ++ replicate 2 0xFF

-- C-13: a device with that flash, and a change to the signature that is not burnt
abbrev pub changed : List ℕ
changed = 0x31 ∷ 0xB0 ∷ 0xB1 ∷ 0x00 ∷ []

abbrev pub unburnt : HolderState → Device
unburnt s = holds s changed signature_burnt

-- a device that has table 0 alone: two bytes, to read and write, 3 and 4 in flash
abbrev pub table_zero : HolderState → (memory : List ℕ) → Device
table_zero s memory =
    device (record { sizes = 2 ∷ replicate 31 0; rights = 2 ∷ replicate 31 0; table_blocking = 0; write_blocking = 0; own = 0 }) s memory (3 ∷ 4 ∷ [])

-- an identifier by hand: taken apart, row by row from the low end, and put together; and what unpacking and packing answer
pub record ByHand (id : ℕ) (parts : List ℕ) (p : Parts) : Type 0 where
  pub apart : map (part id) rows ≡ parts
  pub together : sum_of_rows rows parts ≡ id
  pub unpacked : unpack_of id ≡ Ok p
  pub packed : pack_of p ≡ Ok id

-- a frame by its identifier, its length, and its bytes before zeros
abbrev pub frame : (id len : ℕ) → List ℕ → Frame
frame id len bytes = record { id = id; len = len; bytes = bytes ++ replicate (8 - length bytes) 0 }

-- a frame is answered, with this mark, and this is the device afterwards
abbrev pub AnswersAfter : Device → Frame → (clear : ℕ) → Frame → Device → Type 0
AnswersAfter e f clear g after = (serve_of e f ≡ record { number = 0; frames = 1; clear = clear; frame = g }) × (device_after e f ≡ after)

-- it stays as it was
abbrev pub Answers : Device → Frame → (clear : ℕ) → Frame → Type 0
Answers e f clear g = AnswersAfter e f clear g e

-- a number and no frame
abbrev pub alone : ℕ → Served
alone n = record { number = n; frames = 0; clear = 0; frame = frame 0 0 [] }

-- that is all a refusal answers, and the device stays as it was
abbrev pub Refuses : Device → Frame → ℕ → Type 0
Refuses e f n = (serve_of e f ≡ alone n) × (device_after e f ≡ e)

-- identifiers by hand; frames from device 7, some with bytes past their length that say otherwise; then parts that neither an identifier nor
-- request bytes hold, and request bytes read and packed
pub record Examples : Type 0 where
  -- 01: "offset 6, REQ, from 5 to 0, table 7: 0x18A838", "Table 20 alone: 0x24", "0x1FFFFFFC unpacks"; docs/PENCIL.md has them by hand
  pub identifier : ByHand 0x18A838 (0 ∷ 0 ∷ 7 ∷ 0 ∷ 5 ∷ 1 ∷ 6 ∷ []) (record { offset = 6; kind = 1; from = 5; to = 0; table = 7 })
  pub table20 : ByHand 0x24 (0 ∷ 1 ∷ 4 ∷ 0 ∷ 0 ∷ 0 ∷ 0 ∷ []) (record { offset = 0; kind = 0; from = 0; to = 0; table = 20 })
  pub largest : ByHand 0x1FFFFFFC (0 ∷ 1 ∷ 15 ∷ 15 ∷ 15 ∷ 7 ∷ 2047 ∷ [])
      (record { offset = 2047; kind = 7; from = 15; to = 15; table = 31 })
  -- "0x1FFFFFFD is 2; 0x20000000 is 1"
  pub spare_one : (part_at 0x1FFFFFFD 0 ≡ 1) × (unpack_of 0x1FFFFFFD ≡ Err R.SpareBits)
  pub over29_bits : (map (part 0x20000000) rows ≡ replicate 7 0) × (unpack_of 0x20000000 ≡ Err R.HighIdentifier)
  -- 002, 4.1: "id=0x40b878, DLC=3, Data = 0x06 0x00 0x04" brings "id=0x103b0 .. 0x31 0x34 0x20 0x00"
  pub signature : Answers holder (frame 0x40B878 3 (0x06 ∷ 0x00 ∷ 0x04 ∷ 0xFF ∷ [])) 1
      (frame 0x103B0 4 (0x31 ∷ 0x34 ∷ 0x20 ∷ 0x00 ∷ []))
  -- 002, 4.2: "id=0x18b838, DLC=3, Data = 0x07 0x00 0x42" brings "id=0x903b8, DLC=2, Data = 0x14 0xfe"
  pub rpm : AnswersAfter holder (frame 0x18B838 3 (0x07 ∷ 0x00 ∷ 0x42 ∷ 0xFF ∷ [])) 1
      (frame 0x903B8 2 (0x14 ∷ 0xFE ∷ [])) (holds (state 3 1 7) last_four erased)
  -- XTND `80 06 10 45`: 2 and the blocking factors, to table 6, offset 130
  pub query : Answers holder (frame 0x3B800 4 (0x80 ∷ 0x06 ∷ 0x10 ∷ 0x45 ∷ 0xFF ∷ [])) 1
      (frame 0x20903B0 5 (0x02 ∷ 0x01 ∷ 0x02 ∷ 0x03 ∷ 0x04 ∷ []))
  -- 02, C-16: the same with a reserved bit set, not clear: bit 4 of the third request byte, bit 5 of the first; of the query bit 7 of the
  -- first, bit 4 of the third
  pub bit_four_signature : Answers holder (frame 0x40B878 3 (0x06 ∷ 0x00 ∷ 0x14 ∷ [])) 0
      (frame 0x103B0 4 (0x31 ∷ 0x34 ∷ 0x20 ∷ 0x00 ∷ []))
  pub bit_five_rpm : AnswersAfter holder (frame 0x18B838 3 (0x27 ∷ 0x00 ∷ 0x42 ∷ [])) 0
      (frame 0x903B8 2 (0x14 ∷ 0xFE ∷ [])) (holds (state 3 1 7) last_four erased)
  pub bit_seven_query : Answers holder (frame 0x3B800 4 (0x80 ∷ 0x86 ∷ 0x10 ∷ 0x45 ∷ [])) 0
      (frame 0x20903B0 5 (0x02 ∷ 0x01 ∷ 0x02 ∷ 0x03 ∷ 0x04 ∷ []))
  pub bit_four_query : Answers holder (frame 0x3B800 4 (0x80 ∷ 0x06 ∷ 0x10 ∷ 0x55 ∷ [])) 0
      (frame 0x20903B0 5 (0x02 ∷ 0x01 ∷ 0x02 ∷ 0x03 ∷ 0x04 ∷ []))
  -- CMD, table 15, offset 17, two bytes
  pub stored : (serve_of holder (frame 0x443878 2 (0xB0 ∷ 0xB1 ∷ 0xFF ∷ [])) ≡ alone 0)
      × (device_after holder (frame 0x443878 2 (0xB0 ∷ 0xB1 ∷ 0xFF ∷ [])) ≡ holds (state 3 1 15) changed erased)
  -- 02, C-11: BURN of table 15, at offset 2,047, and of table 20; "The reply is XTND to the sender with offset 0, the burnt table, and bytes 0E 01"
  pub burnt : AnswersAfter holder (frame 0x1FFE3878 0 (0xFF ∷ [])) 0 (frame 0x383F8 2 (0x0E ∷ 0x01 ∷ [])) (holds (state 3 1 15) last_four signature_burnt)
  pub burnt20 : AnswersAfter holder (frame 0x23824 0 []) 0 (frame 0x383A4 2 (0x0E ∷ 0x01 ∷ []))
      (holds (state 3 1 20) last_four (replicate 30 0xFF ++ 0xC2 ∷ 0xC3 ∷ []))
  -- the CMD again, on the burnt device: the flash stays; and a BURN of what it stored
  pub stored_later : device_after (holds (state 3 1 15) last_four signature_burnt) (frame 0x443878 2 (0xB0 ∷ 0xB1 ∷ [])) ≡ unburnt (state 3 1 15)
  pub burnt_again : AnswersAfter (unburnt (state 3 1 15)) (frame 0x23878 0 []) 0 (frame 0x383F8 2 (0x0E ∷ 0x01 ∷ []))
      (holds (state 3 1 15) changed (replicate 10 0xFF ++ signature_with changed ++ replicate 2 0xFF))
  -- 02, C-13: the signature's last four bytes, of the older family: with table 7 current, with none, with table 15; and of the newer
  pub forgets : AnswersAfter (unburnt (state 2 1 7)) (frame 0x40B878 3 (0x06 ∷ 0x00 ∷ 0x04 ∷ [])) 1 (frame 0x103B0 4 last_four)
      (holds (state 2 1 15) last_four signature_burnt)
  pub forgets_at_first : AnswersAfter (unburnt (state 2 0 0)) (frame 0x40B878 3 (0x06 ∷ 0x00 ∷ 0x04 ∷ [])) 1 (frame 0x103B0 4 last_four)
      (holds (state 2 1 15) last_four signature_burnt)
  pub remembers : Answers (unburnt (state 2 1 15)) (frame 0x40B878 3 (0x06 ∷ 0x00 ∷ 0x04 ∷ [])) 1 (frame 0x103B0 4 changed)
  pub newer : AnswersAfter (unburnt (state 3 1 7)) (frame 0x40B878 3 (0x06 ∷ 0x00 ∷ 0x04 ∷ [])) 1 (frame 0x103B0 4 changed) (unburnt (state 3 1 15))
  -- a CMD of one byte at offset 19 writes into what was reloaded, and a BURN burns it; of table 15 current neither reloads
  pub stored_older : device_after (unburnt (state 2 1 7)) (frame 0x4C3878 1 (0xB2 ∷ []))
      ≡ holds (state 2 1 15) (0x31 ∷ 0x34 ∷ 0x20 ∷ 0xB2 ∷ []) signature_burnt
  pub stored_current : device_after (unburnt (state 2 1 15)) (frame 0x4C3878 1 (0xB2 ∷ []))
      ≡ holds (state 2 1 15) (0x31 ∷ 0xB0 ∷ 0xB1 ∷ 0xB2 ∷ []) signature_burnt
  pub burnt_older : AnswersAfter (unburnt (state 2 1 7)) (frame 0x23878 0 []) 0 (frame 0x383F8 2 (0x0E ∷ 0x01 ∷ []))
      (holds (state 2 1 15) last_four signature_burnt)
  pub burnt_current : AnswersAfter (unburnt (state 2 1 15)) (frame 0x23878 0 []) 0 (frame 0x383F8 2 (0x0E ∷ 0x01 ∷ []))
      (holds (state 2 1 15) changed (replicate 10 0xFF ++ signature_with changed ++ replicate 2 0xFF))
  -- the CMD of two bytes, a REQ of table 7, and the signature's again: gone; with a BURN after the CMD: kept
  pub gone_later : (serve_of (device_after (device_after (holds (state 2 1 15) last_four signature_burnt) (frame 0x443878 2 (0xB0 ∷ 0xB1 ∷ [])))
      (frame 0x18B838 3 (0x07 ∷ 0x00 ∷ 0x42 ∷ []))) (frame 0x40B878 3 (0x06 ∷ 0x00 ∷ 0x04 ∷ []))).frame ≡ frame 0x103B0 4 last_four
  pub kept_later : (serve_of (device_after (device_after (unburnt (state 2 1 15)) (frame 0x23878 0 [])) (frame 0x18B838 3 (0x07 ∷ 0x00 ∷ 0x42 ∷ [])))
      (frame 0x40B878 3 (0x06 ∷ 0x00 ∷ 0x04 ∷ []))).frame ≡ frame 0x103B0 4 changed
  -- the protocol query, with table 15 in its identifier, and a REQ that is refused
  pub query_older : Answers (unburnt (state 2 1 7)) (frame 0x3B878 4 (0x80 ∷ 0x06 ∷ 0x10 ∷ 0x45 ∷ [])) 1
      (frame 0x20903B0 5 (0x02 ∷ 0x01 ∷ 0x02 ∷ 0x03 ∷ 0x04 ∷ []))
  pub refused_older : Refuses (unburnt (state 2 1 7)) (frame 0x40B878 3 (0x06 ∷ 0x00 ∷ 0x09 ∷ [])) 9
  -- none is not table 0
  pub none_is_not_table0 : AnswersAfter (table_zero (state 2 0 0) (1 ∷ 2 ∷ [])) (frame 0xB800 3 (0x06 ∷ 0x00 ∷ 0x02 ∷ [])) 1 (frame 0x103B0 2 (3 ∷ 4 ∷ []))
      (table_zero (state 2 1 0) (3 ∷ 4 ∷ []))
  pub table0_current : Answers (table_zero (state 2 1 0) (1 ∷ 2 ∷ [])) (frame 0xB800 3 (0x06 ∷ 0x00 ∷ 0x02 ∷ [])) 1 (frame 0x103B0 2 (1 ∷ 2 ∷ []))
  -- 11: family 4, 1 and 0; has_current 2; a table where has_current is 0; current table 32; an empty one; before 10
  pub family4 : Refuses (unburnt (state 4 1 7)) (frame 0x40B878 3 (0x06 ∷ 0x00 ∷ 0x04 ∷ [])) 11
  pub family1 : Refuses (unburnt (state 1 1 7)) (frame 0x40B878 3 (0x06 ∷ 0x00 ∷ 0x04 ∷ [])) 11
  pub family0 : Refuses (unburnt (state 0 0 0)) (frame 0x40B878 3 (0x06 ∷ 0x00 ∷ 0x04 ∷ [])) 11
  pub has_current2 : Refuses (unburnt (state 2 2 7)) (frame 0x40B878 3 (0x06 ∷ 0x00 ∷ 0x04 ∷ [])) 11
  pub none_with_table : Refuses (unburnt (state 2 0 7)) (frame 0x40B878 3 (0x06 ∷ 0x00 ∷ 0x04 ∷ [])) 11
  pub current32 : Refuses (unburnt (state 2 1 32)) (frame 0x40B878 3 (0x06 ∷ 0x00 ∷ 0x04 ∷ [])) 11
  pub empty_current : Refuses (unburnt (state 3 1 5)) (frame 0x40B878 3 (0x06 ∷ 0x00 ∷ 0x04 ∷ [])) 11
  pub unsound_state : Refuses (device (tables 0 20) (state 4 0 0) [] []) (frame 0x20403881 9 []) 11
  -- the first states of families
  pub first2 : first_state_of 2 ≡ record { number = 0; state = state 2 0 0 }
  pub first3 : first_state_of 3 ≡ record { number = 0; state = state 3 0 0 }
  pub first4 : first_state_of 4 ≡ record { number = 11; state = state 0 0 0 }
  -- no memory and no flash: 11 before 10, of own number 16 and of a table of 2,057 bytes
  pub unsound : Refuses (device (tables 16 20) (state 3 0 0) [] []) (frame 0x40B878 3 (0x06 ∷ 0x00 ∷ 0x04 ∷ [])) 11
  pub too_long : Refuses (device (tables 0 2057) (state 3 0 0) [] []) (frame 0x40B878 3 (0x06 ∷ 0x00 ∷ 0x04 ∷ [])) 11
  pub no_memory : Refuses (device (tables 0 2056) (state 3 0 0) [] []) (frame 0x40B878 3 (0x06 ∷ 0x00 ∷ 0x04 ∷ [])) 10
  -- 10 before 1: memory too short, flash too short, flash too long
  pub short_memory : Refuses (device (tables 0 20) (state 3 0 0) (replicate 31 0) erased) (frame 0x20403881 9 []) 10
  pub short_flash : Refuses (holds (state 3 0 0) last_four (replicate 31 0xFF)) (frame 0x20403881 9 []) 10
  pub long_flash : Refuses (holds (state 3 0 0) last_four (replicate 33 0xFF)) (frame 0x20403881 9 []) 10
  -- 1, 2, 3, 4: nine bytes to device 1, with a spare bit and bit 29, then without
  pub too_large : Refuses holder (frame 0x20403881 9 []) 1
  pub spare_bit : Refuses holder (frame 0x403881 9 []) 2
  pub nine_long : Refuses holder (frame 0x403880 9 []) 3
  pub elsewhere : Refuses holder (frame 0x403880 8 []) 4
  -- RSP gets 5, and so does a BURN's acknowledgement that arrives
  pub reply : Refuses holder (frame 0x413878 1 (0 ∷ [])) 5
  pub acknowledgement : Refuses holder (frame 0x3B878 2 (0x0E ∷ 0x01 ∷ [])) 5
  -- a REQ of length 2, a query of length 3, XTND of length 0
  pub short_request : Refuses holder (frame 0x40B878 2 (0x06 ∷ 0x00 ∷ 0x04 ∷ [])) 6
  pub short_query : Refuses holder (frame 0x3B800 3 (0x80 ∷ 0x06 ∷ 0x10 ∷ 0x45 ∷ [])) 6
  pub empty_query : Refuses holder (frame 0x3B800 0 (0x81 ∷ [])) 6
  -- BURN of length 1, of a table that may only be read
  pub long_burn : Refuses holder (frame 0x23838 1 (0x0E ∷ [])) 6
  -- BURN of table 7, of table 4, of an empty table
  pub read_only_burn : Refuses holder (frame 0x23838 0 []) 7
  pub no_right_burn : Refuses holder (frame 0x23820 0 []) 7
  pub empty_burn : Refuses (device (tables 0 0) (state 3 0 0) (replicate 12 0) (replicate 12 0xFF)) (frame 0x23878 0 []) 7
  -- CMD to table 7, REQ to table 4
  pub read_only : Refuses holder (frame 0x183838 2 (0xB0 ∷ 0xB1 ∷ [])) 7
  pub no_right : Refuses holder (frame 0xB820 3 (0x06 ∷ 0x00 ∷ 0x02 ∷ [])) 7
  -- nine bytes of table 15 from offset 16: 9 before 8, and a bit 4 beside the 9 changes nothing; five bytes are 8
  pub nine : Refuses holder (frame 0x40B878 3 (0x06 ∷ 0x00 ∷ 0x09 ∷ [])) 9
  pub bit_four_nine : Refuses holder (frame 0x40B878 3 (0x06 ∷ 0x00 ∷ 0x19 ∷ [])) 9
  pub five : Refuses holder (frame 0x403878 5 (0xB0 ∷ 0xB1 ∷ 0xB2 ∷ 0xB3 ∷ 0xB4 ∷ [])) 8
  -- table 32, a count of 16
  pub table32 : pack_of (record { offset = 0; kind = 0; from = 0; to = 0; table = 32 }) ≡ Err R.NoTable
  pub count16 : request_bytes_of (record { table = 0; offset = 0; count = 16 }) ≡ record { number = 9; bytes = replicate 3 0 }
  -- 01: "`06 10 02` asks two bytes to table 6, offset 128", and C-16: `06 10 12` is now such a request; so is `46 10 02`
  pub clear_bytes : read_request_of 0x06 0x10 0x02 ≡ record { request = record { table = 6; offset = 128; count = 2 }; clear = 1 }
  pub bit_four_bytes : read_request_of 0x06 0x10 0x12 ≡ record { request = record { table = 6; offset = 128; count = 2 }; clear = 0 }
  pub bit_six_bytes : read_request_of 0x46 0x10 0x02 ≡ record { request = record { table = 6; offset = 128; count = 2 }; clear = 0 }
  -- "Packing still writes zeros"
  pub zeros_packed : request_bytes_of (record { table = 6; offset = 128; count = 2 }) ≡ record { number = 0; bytes = 0x06 ∷ 0x10 ∷ 0x02 ∷ [] }
